-- Jobs of eight desks, done in turn and each once (FORMAT 9). A scheduler is the clerk, a slot a desk.
use Rattle.std.specs.Prelude.{ℕ, zero, suc, ◌+◌, ◌%◌, Bool, ◌&&◌, ◌||◌, false, not, true, List, Option, None, Some, Result, Ok, Err, eqb, ltb, get_or, replicate, set}
use Rattle.answers.specs.declared.Answer.{Answer}
use Rattle.lists.specs.Lists.{pick}
use Rattle.scheduler.specs.declared.Job.{Job}
use Rattle.scheduler.specs.declared.Job.TheVariants.{Cut, Remove}
use Rattle.scheduler.specs.declared.Scheduler.{Scheduler}
use Rattle.scheduler.specs.declared.Slot.{Slot}
use Rattle.scheduler.specs.declared.SubmitError.{SubmitError}
use Rattle.scheduler.specs.declared.SubmitError.TheVariants.{KeyInUse, Occupied, Unnamed}

-- ---- a job is the same if it was given alike, a parameter by its bits

abbrev pub same_place : Option ℕ → Option ℕ → Bool
same_place (Some a) (Some b) = eqb a b
same_place (Some a) None = false
same_place None (Some b) = false
same_place None None = true

abbrev pub same_job : Job → Job → Bool
same_job (Cut n e v at) (Cut m f w to) = eqb n m && (eqb e f && (eqb v w && same_place at to))
same_job (Cut n e v at) (Remove m w) = false
same_job (Remove n v) (Cut m f w to) = false
same_job (Remove n v) (Remove m w) = eqb n m && eqb v w

-- ---- a new scheduler holds no answer, and has nobody waiting; its round begins with slot 0

abbrev pub empty_slot : Slot
empty_slot = record { waiting = None; held = None }

abbrev pub new_scheduler : Scheduler
new_scheduler = record { slots = replicate 8 empty_slot; last = 7 }

-- ---- a submission at a slot, with key k and job j: refused, or the job waits, or the held answer is given again

-- the key waits, or is held, with a different job
abbrev pub waits_other : Option (ℕ × Job) → ℕ → Job → Bool
waits_other None k j = false
waits_other (Some (l, i)) k j = eqb l k && not (same_job i j)

abbrev pub held_other : Option (ℕ × Job × Answer) → ℕ → Job → Bool
held_other None k j = false
held_other (Some (l, i, a)) k j = eqb l k && not (same_job i j)

abbrev pub SubmitAnswer : Type 0
SubmitAnswer = Result (Option Answer) SubmitError

-- the same job again counts as the one that waits; else 34 where another waits
abbrev pub queue_answer : Option (ℕ × Job) → ℕ → Job → SubmitAnswer
queue_answer None k j = Ok None
queue_answer (Some (l, i)) k j = pick (eqb l k && same_job i j) (Ok None) (Err Occupied)

-- the held answer, where it is due
abbrev pub due_answer : Option (ℕ × Job × Answer) → ℕ → Job → SubmitAnswer → SubmitAnswer
due_answer None k j else = else
due_answer (Some (l, i, a)) k j else = pick (eqb l k && same_job i j) (Ok (Some a)) else

-- 33, then 34 unless the held answer is due
abbrev pub slot_answer : Slot → ℕ → Job → SubmitAnswer
slot_answer x k j = pick (held_other x.held k j || waits_other x.waiting k j) (Err KeyInUse) (due_answer x.held k j (queue_answer x.waiting k j))

-- the slot afterwards: the job waits where that is the answer
abbrev pub slot_after : SubmitAnswer → Slot → ℕ → Job → Slot
slot_after (Ok None) x k j = record { waiting = Some (k, j); held = x.held }
slot_after (Ok (Some a)) x k j = x
slot_after (Err e) x k j = x

-- ---- a submission at slot d of a scheduler

abbrev pub slot_at : Scheduler → ℕ → Slot
slot_at c d = get_or c.slots d empty_slot

-- 3, then as at the slot
abbrev pub submit_answer : Scheduler → ℕ → ℕ → Job → SubmitAnswer
submit_answer c d k j = pick (ltb d 8) (slot_answer (slot_at c d) k j) (Err Unnamed)

abbrev pub after_submit : Scheduler → ℕ → ℕ → Job → Scheduler
after_submit c d k j = pick (ltb d 8) (record { slots = set c.slots d (slot_after (slot_answer (slot_at c d) k j) (slot_at c d) k j); last = c.last }) c

abbrev pub submit_number : SubmitError → ℕ
submit_number Unnamed = 3
submit_number KeyInUse = 33
submit_number Occupied = 34

-- ---- whose turn it is: the next slot after d, going round, at which a job waits, of n that are looked at

abbrev pub waiting_there : Option (ℕ × Job) → ℕ → Option (ℕ × ℕ × Job) → Option (ℕ × ℕ × Job)
waiting_there None d else = else
waiting_there (Some (k, j)) d else = Some (d, k, j)

unfoldable pub first_waiting : List Slot → ℕ → ℕ → Option (ℕ × ℕ × Job)
first_waiting slots zero d = None
first_waiting slots (suc n) d = let e = (d + 1) % 8 in waiting_there (get_or slots e empty_slot).waiting e (first_waiting slots n e)

-- after the slot that was served last, which comes last
abbrev pub next_job : Scheduler → Option (ℕ × ℕ × Job)
next_job c = first_waiting c.slots 8 c.last
