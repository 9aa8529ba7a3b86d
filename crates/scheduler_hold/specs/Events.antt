-- What the theorems on the scheduler speak of: submissions and turns in any sequence, on a file that others may write too (FORMAT 9.4).
use Rattle.std.specs.Prelude.{ℕ, suc, Bool, false, not, true, List, [], ◌∷◌, ◌++◌, ◌≡◌, Option, None, Some, Ok, eqb, take}
use Rattle.answers.specs.declared.Answer.{Answer}
use Rattle.lists.specs.Lists.{pick}
use Rattle.scheduler.specs.Scheduler.{after_submit, new_scheduler, next_job, slot_at, SubmitAnswer}
use Rattle.scheduler.specs.declared.Job.{Job}
use Rattle.scheduler.specs.declared.Scheduler.{Scheduler}
use Rattle.scheduler_turn.specs.Turn.{after_turn, job_answer, job_out, room}

-- ---- events

-- a submission at a slot with a key; a turn; others write the file
pub data Event : Type 0 where
  Submit : ℕ → ℕ → Job → Event
  Turn : Event
  Write : List ℕ → Event

pub record World : Type 0 where
  pub scheduler : Scheduler
  pub file : List ℕ

-- file s after the next job: the edited one, where the job is done
abbrev pub file_after_job : Option (ℕ × ℕ × Job) → List ℕ → List ℕ
file_after_job None s = s
file_after_job (Some (d, k, j)) s = pick (eqb (job_answer j s).outcome 0) (take (job_answer j s).third (job_out j s room)) s

abbrev pub after : World → Event → World
after w (Submit d k j) = record { scheduler = after_submit w.scheduler d k j; file = w.file }
after w Turn = record { scheduler = after_turn w.scheduler w.file; file = file_after_job (next_job w.scheduler) w.file }
after w (Write s) = record { scheduler = w.scheduler; file = s }

unfoldable pub run : World → List Event → World
run w [] = w
run w (e ∷ es) = run (after w e) es

-- a new scheduler, after these events on file s
abbrev pub reached : List ℕ → List Event → World
reached s es = run (record { scheduler = new_scheduler; file = s }) es

unfoldable pub turns : List Event → ℕ
turns [] = 0
turns (Submit d k j ∷ es) = turns es
turns (Turn ∷ es) = suc (turns es)
turns (Write s ∷ es) = turns es

-- ---- what is served at slot d

-- a job that was done on the file, under its key, and its answer
pub record Service : Type 0 where
  pub key : ℕ
  pub job : Job
  pub answer : Answer

abbrev pub served_by : ℕ → Option (ℕ × ℕ × Job) → List ℕ → List Service
served_by d None s = []
served_by d (Some (e, k, j)) s = pick (eqb e d) (record { key = k; job = j; answer = job_answer j s } ∷ []) []

abbrev pub served_at : ℕ → World → Event → List Service
served_at d w (Submit e k j) = []
served_at d w Turn = served_by d (next_job w.scheduler) w.file
served_at d w (Write s) = []

unfoldable pub services : ℕ → World → List Event → List Service
services d w [] = []
services d w (e ∷ es) = served_at d w e ++ services d (after w e) es

-- ---- done once: job j under key k waits at a slot; these are served there then, and r answers its being sent again

-- it was served with answer a: that is what it gets, until a job under another key is served
abbrev pub Since : ℕ → Answer → List Service → SubmitAnswer → Type 0
Since k a [] r = r ≡ Ok (Some a)
Since k a (y ∷ ys) r = eqb y.key k ≡ false

-- it waits until it is served, as the first
abbrev pub Once : ℕ → Job → List Service → SubmitAnswer → Type 0
Once k j [] r = r ≡ Ok None
Once k j (x ∷ ys) r = (x.key ≡ k) × (x.job ≡ j) × Since k x.answer ys r

-- ---- the held key and the waiting key of a slot

abbrev pub keys_differ : Option (ℕ × Job) → Option (ℕ × Job × Answer) → Bool
keys_differ None h = true
keys_differ (Some (k, j)) None = true
keys_differ (Some (k, j)) (Some (l, i, a)) = not (eqb l k)

abbrev pub KeysApart : Scheduler → Type 0
KeysApart c = (d : ℕ) → keys_differ (slot_at c d).waiting (slot_at c d).held ≡ true
