-- A scheduler in a lent list of numbers; its layout is nobody's concern. Cited by inner contracts.
use Rattle.std.specs.Prelude.{◌%◌, ◌+◌, suc, zero, ℕ, List, [], ◌++◌, ◌∷◌, ◌≡◌, Option, None, Some, eqb, drop, get_or, length}
use Rattle.answers.specs.declared.Answer.{Answer}
use Rattle.lists.specs.Lists.{pick}
use Rattle.scheduler.specs.declared.Job.{Job}
use Rattle.scheduler.specs.declared.Job.TheVariants.{Cut, Remove}
use Rattle.scheduler.specs.declared.Scheduler.{Scheduler}
use Rattle.scheduler.specs.declared.Slot.{Slot}

-- a job with its key: kind 1 is a cut at these bits, 2 a cut nowhere, 3 a removal, any other none
abbrev pub waiting_of : (kind key shell edge point bits : ℕ) → Option (ℕ × Job)
waiting_of kind key shell edge point bits =
    pick (eqb kind 1) (Some (key % 4294967296, Cut shell edge point (Some bits)))
    (pick (eqb kind 2) (Some (key % 4294967296, Cut shell edge point None))
    (pick (eqb kind 3) (Some (key % 4294967296, Remove shell point)) None))

abbrev pub waiting_in : List ℕ → Option (ℕ × Job)
waiting_in ns = waiting_of (get_or ns 0 0) (get_or ns 1 0) (get_or ns 2 0) (get_or ns 3 0) (get_or ns 4 0) (get_or ns 5 0)

abbrev pub answer_in : List ℕ → Answer
answer_in ns = record { outcome = get_or ns 0 0; number = get_or ns 1 0; first = get_or ns 2 0; second = get_or ns 3 0; third = get_or ns 4 0; fourth = get_or ns 5 0 }

abbrev pub held_of : Option (ℕ × Job) → Answer → Option (ℕ × Job × Answer)
held_of None a = None
held_of (Some (k, j)) a = Some (k, j, a)

-- the job that waits, the job that is held, its answer
unfoldable pub slot_in : List ℕ → Slot
slot_in ns = record { waiting = waiting_in ns; held = held_of (waiting_in (drop 6 ns)) (answer_in (drop 12 ns)) }

-- n slots, one after the other
unfoldable pub slots_in : ℕ → List ℕ → List Slot
slots_in zero ns = []
slots_in (suc n) ns = slot_in ns ∷ slots_in n (drop 18 ns)

-- the slot that was served last, then the slots
abbrev pub scheduler_in : List ℕ → Scheduler
scheduler_in ns = record { slots = slots_in 8 (drop 1 ns); last = get_or ns 0 0 }

-- ---- what is put changes nothing after it

-- six numbers, from a place on
pub record SixPut (six : List ℕ) (at : ℕ) (before after : List ℕ) : Type 0 where
  pub long : length six ≡ 6
  pub there : drop at after ≡ six ++ drop (at + 6) before

-- a slot, from a place on
pub record SlotPut (slot : Slot) (at : ℕ) (before after : List ℕ) : Type 0 where
  pub there : slot_in (drop at after) ≡ slot
  pub rest : drop (at + 18) after ≡ drop (at + 18) before
