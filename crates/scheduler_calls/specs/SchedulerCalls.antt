-- The scheduler as calls for clients: number and values of its answers, and what the lent lists then hold (FORMAT 9.5).
use Rattle.std.specs.Prelude.{ℕ, List, [], ◌∷◌, ◌++◌, ◌≡◌, Option, None, Some, Ok, Err, eqb, leb, drop, get_or, length, take}
use Rattle.answers.specs.declared.Answer.{Answer}
use Rattle.errors.specs.Numbers.{Reply, done, refused}
use Rattle.lists.specs.Lists.{pick}
use Rattle.scheduler.specs.Scheduler.{SubmitAnswer, submit_number}
use Rattle.scheduler.specs.declared.Job.{Job}
use Rattle.scheduler.specs.declared.Scheduler.{Scheduler}
use Rattle.scheduler_turn.specs.Turn.{after_turn, turn_answer, turn_out}
use Rattle.scheduler_calls.specs.declared.SchedulerAnswer.{SchedulerAnswer}

-- ---- number and values: whether there is an answer of an edit, the slot that was served, that answer's six numbers

abbrev pub answer_numbers : Answer → List ℕ
answer_numbers a = a.outcome ∷ a.number ∷ a.first ∷ a.second ∷ a.third ∷ a.fourth ∷ []

abbrev pub submit_reply : SubmitAnswer → Reply
submit_reply (Ok None) = done []
submit_reply (Ok (Some a)) = done (1 ∷ 0 ∷ answer_numbers a)
submit_reply (Err e) = refused (submit_number e) []

abbrev pub turn_reply : Option (ℕ × Job × Answer) → Reply
turn_reply None = done []
turn_reply (Some (d, j, a)) = done (1 ∷ d ∷ answer_numbers a)

abbrev pub scheduler_values : Reply → SchedulerAnswer
scheduler_values r = record {
  outcome = r.outcome;
  number = r.number;
  state = get_or r.values 0 0;
  slot = get_or r.values 1 0;
  answer = record {
    outcome = get_or r.values 2 0;
    number = get_or r.values 3 0;
    first = get_or r.values 4 0;
    second = get_or r.values 5 0;
    third = get_or r.values 6 0;
    fourth = get_or r.values 7 0;
  };
}

abbrev pub submit_values : SubmitAnswer → SchedulerAnswer
submit_values a = scheduler_values (submit_reply a)

abbrev pub turn_values : Option (ℕ × Job × Answer) → SchedulerAnswer
turn_values a = scheduler_values (turn_reply a)

-- ---- a submission: a parameter by its bits, of which one NaN's stand for nowhere; the list is as it was unless the job waits now

abbrev pub place_of : ℕ → Option ℕ
place_of bits = pick (eqb bits 0x7ff8000000000000) None (Some bits)

abbrev pub SubmitKept : SubmitAnswer → List ℕ → List ℕ → Type 0
SubmitKept (Ok None) before after = Unit
SubmitKept (Ok (Some a)) before after = after ≡ before
SubmitKept (Err e) before after = after ≡ before

-- ---- a turn on file s, with a list of n bytes for the edited file: 17 where that has no room for the longest file, and then it is no turn

abbrev pub turn_call : Scheduler → List ℕ → ℕ → SchedulerAnswer
turn_call c s n = pick (leb 41048 n) (turn_values (turn_answer c s)) (scheduler_values (refused 17 []))

abbrev pub after_turn_call : Scheduler → List ℕ → ℕ → Scheduler
after_turn_call c s n = pick (leb 41048 n) (after_turn c s) c

abbrev pub turn_call_out : Scheduler → List ℕ → List ℕ → List ℕ
turn_call_out c s out = pick (leb 41048 (length out)) (turn_out c s (take 41048 out) ++ drop 41048 out) out

-- ---- inner

abbrev pub without_answer : ℕ → ℕ → SchedulerAnswer
without_answer outcome number = scheduler_values (record { outcome = outcome; number = number; values = [] })

abbrev pub with_answer : ℕ → Answer → SchedulerAnswer
with_answer slot a = scheduler_values (done (1 ∷ slot ∷ answer_numbers a))

-- the list is as it was if nobody was served
abbrev pub TurnKept : Option (ℕ × Job × Answer) → List ℕ → List ℕ → Type 0
TurnKept None before after = after ≡ before
TurnKept (Some (d, j, a)) before after = Unit
