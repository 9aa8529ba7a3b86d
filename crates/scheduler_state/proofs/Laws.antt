-- A slot is read from the numbers that were written for it, and so are all of them.
use Prim.Native.Nat.{◌*◌, ◌+◌, ◌-◌, ◌<◌, ◌≤◌, suc, ℕ}
use mathlib.Core.List.{List, [], ◌++◌, ◌∷◌}
use mathlib.Core.Path.{◌∙◌, ◌≡◌, sym}
use native.Mathlib.Omega.{arith}
use lib.ListN.{drop, drop_of_length-le, get_or, length, length-set, set, take}
use lib.Seq.{drop-cons, drop-drop, drop-set-lt, get_or-set_same, get_or-take}
use Rattle.answers.specs.declared.Answer.{Answer}
use Rattle.lists.proofs.Laws.{tabulate_get_d}
use Rattle.lists.specs.Lists.{tabulate}
use Rattle.std.specs.Prelude.{Option}
use Rattle.scheduler.specs.Scheduler.{empty_slot}
use Rattle.scheduler.specs.declared.Job.{Job}
use Rattle.scheduler.specs.declared.Scheduler.{Scheduler}
use Rattle.scheduler.specs.declared.Slot.{Slot}
use Rattle.scheduler_state.specs.State.{SixPut, SlotPut, answer_in, held_of, scheduler_in, slot_in, slots_in, waiting_in}

-- ---- reading

first_six : (ns : List ℕ) (k : ℕ) → k < 6 → get_or (take 6 ns) k 0 ≡ get_or ns k 0
first_six ns k h = get_or-take 6 ns k 0 h

waiting_six : (ns : List ℕ) → waiting_in (take 6 ns) ≡ waiting_in ns
waiting_six ns = rw (first_six ns 0 (omega arith), first_six ns 1 (omega arith), first_six ns 2 (omega arith), first_six ns 3 (omega arith), first_six ns 4 (omega arith), first_six ns 5 (omega arith))

answer_six : (ns : List ℕ) → answer_in (take 6 ns) ≡ answer_in ns
answer_six ns = rw (first_six ns 0 (omega arith), first_six ns 1 (omega arith), first_six ns 2 (omega arith), first_six ns 3 (omega arith), first_six ns 4 (omega arith), first_six ns 5 (omega arith))

module _ (ns : List ℕ) (at : ℕ) where
  pub slot_read : {x y z : List ℕ} → x ≡ take 6 (drop at ns) → y ≡ take 6 (drop (at + 6) ns) → z ≡ take 6 (drop (at + 12) ns)
      → {w j : Option (ℕ × Job)} {a : Answer} {h : Option (ℕ × Job × Answer)} → w ≡ waiting_in x → j ≡ waiting_in y → a ≡ answer_in z → h ≡ held_of j a
      → ◌≡◌ {A = Slot} (record { waiting = w; held = h }) (slot_in (drop at ns))
  unfolding slot_in
  slot_read p q r e f g h =
      rw (h, e, f, g, p, q, r, waiting_six (drop at ns), waiting_six (drop (at + 6) ns), answer_six (drop (at + 12) ns), ← drop-drop 6 at ns, ← drop-drop 12 at ns)

  slots_at : (n : ℕ) → slots_in (suc n) (drop at ns) ≡ slot_in (drop at ns) ∷ slots_in n (drop (at + 18) ns)
  unfolding slots_in
  slots_at n = rw (drop-drop 18 at ns)

-- ---- writing

-- a list of six, from its elements
six : (xs : List ℕ) → length xs ≡ 6 → xs ≡ get_or xs 0 0 ∷ get_or xs 1 0 ∷ get_or xs 2 0 ∷ get_or xs 3 0 ∷ get_or xs 4 0 ∷ get_or xs 5 0 ∷ []
unfolding tabulate
six xs long = sym (rw long at (tabulate_get_d xs 0))

module _ (w j a rest : List ℕ) (long-w : length w ≡ 6) (long-j : length j ≡ 6) (long-a : length a ≡ 6) where
  slot_of : slot_in (w ++ (j ++ (a ++ rest))) ≡ record { waiting = waiting_in w; held = held_of (waiting_in j) (answer_in a) }
  unfolding slot_in
  slot_of = rw (six w long-w, six j long-j, six a long-a)

  past_slot : drop 18 (w ++ (j ++ (a ++ rest))) ≡ rest
  past_slot = rw (six w long-w, six j long-j, six a long-a)

-- the three parts of a slot, the last first
pub slot_put : (slot : Slot) (at : ℕ) {n₀ n₁ n₂ n₃ w j a : List ℕ} {job : Option (ℕ × Job)} {answer : Answer}
    → SixPut a (at + 12) n₀ n₁ → SixPut j (at + 6) n₁ n₂ → SixPut w at n₂ n₃
    → waiting_in w ≡ slot.waiting → waiting_in j ≡ job → answer_in a ≡ answer → held_of job answer ≡ slot.held → SlotPut slot at n₀ n₃
slot_put slot at {n₀} {n₁} {n₂} {n₃} {w} {j} {a} x y z p q r s =
    let twelve : at + 6 + 6 ≡ at + 12 = omega arith in
    let eighteen : at + 12 + 6 ≡ at + 18 = omega arith in
    let all : drop at n₃ ≡ w ++ (j ++ (a ++ drop (at + 18) n₀)) = rw (z.there, y.there, twelve, x.there, eighteen) in
    record {
      there = rw all (slot_of w j a (drop (at + 18) n₀) z.long y.long x.long ∙ rw (p, q, r, s));
      rest = sym (drop-drop 18 at n₃) ∙ rw all (past_slot w j a (drop (at + 18) n₀) z.long y.long x.long);
    }

-- ---- the loops over the slots, the last first: slots k and after are in the numbers

pub record From (k : ℕ) (ns : List ℕ) (slots : List Slot) : Type 0 where
  pub low : k ≤ 8
  pub long : length slots ≡ 8
  pub there : slots_in (8 - k) (drop (1 + 18 * k) ns) ≡ drop k slots

pub from_start : (ns : List ℕ) (slots : List Slot) → length slots ≡ 8 → From 8 ns slots
unfolding slots_in
from_start ns slots long = record { low = omega arith; long = long; there = sym (drop_of_length-le slots {i = 8} (omega arith)) }

pub from_all : {k : ℕ} {ns : List ℕ} {slots : List Slot} → From k ns slots → k ≡ 0 → slots_in 8 (drop 1 ns) ≡ slots
from_all f none = rw none at f.there

module _ {j k : ℕ} (is : k ≡ suc j) where
  from_more : {ns : List ℕ} {slots : List Slot} → From k ns slots → slot_in (drop (1 + 18 * j) ns) ≡ get_or slots j empty_slot → From j ns slots
  from_more {ns} {slots} f slot =
      let more : 8 - j ≡ suc (8 - k) = omega (arith, f.low) in
      let next : 1 + 18 * j + 18 ≡ 1 + 18 * k = omega arith in
      record {
        low = omega (arith, f.low);
        long = f.long;
        there = rw more (slots_at ns (1 + 18 * j) (8 - k) ∙ rw (slot, next, f.there, is) (sym (drop-cons slots j empty_slot (omega (arith, f.low, f.long)))));
      }

  pub from_put : {ns ms : List ℕ} {slots : List Slot} {slot : Slot} → From k ns slots → SlotPut slot (1 + 18 * j) ns ms → slot ≡ get_or slots j empty_slot → From j ms slots
  from_put {ns} {ms} f p e =
      let next : 1 + 18 * j + 18 ≡ 1 + 18 * k = omega arith in
      let rest : drop (1 + 18 * k) ms ≡ drop (1 + 18 * k) ns = rw next at p.rest in
      from_more (record { low = f.low; long = f.long; there = rw rest f.there }) (p.there ∙ e)

  pub from_read : {ns : List ℕ} {slots : List Slot} {slot : Slot} → From k ns slots → slot ≡ slot_in (drop (1 + 18 * j) ns) → From j ns (set slots j slot)
  from_read {ns} {slots} {slot} f e =
      from_more
      (record { low = f.low; long = length-set slots j slot ∙ f.long; there = f.there ∙ sym (drop-set-lt k slots j slot (omega arith)) })
      (sym (get_or-set_same slots j slot empty_slot (omega (arith, f.low, f.long)) ∙ e))

-- the slot that was served last, before all slots
pub whole : (c : Scheduler) (ns : List ℕ) → length ns ≡ 145 → slots_in 8 (drop 1 ns) ≡ c.slots → scheduler_in (set ns 0 c.last) ≡ c
whole c ns long e = rw (drop-set-lt 1 ns 0 c.last (omega arith), get_or-set_same ns 0 c.last 0 (omega arith), e)
