-- A scheduler: which slot is next, and what an event leaves at each slot.
use Prim.Native.Nat.{ℕ, zero, suc, ◌+◌, ◌-◌, ◌%◌, ◌<◌, ◌≤◌}
use mathlib.Core.Bool.{false, true}
use mathlib.Core.List.{List}
use mathlib.Core.Logic.{⊎_elim}
use mathlib.Core.Path.{◌∙◌, ◌≡◌, ap, refl, subst, sym}
use native.Mathlib.Omega.{arith}
use lib.Dec.{eqb, ltb}
use lib.ListN.{get_or-eq_default, get_or, length, length-set, set}
use lib.Seq.{get_or-set_other, get_or-set_same}
use borrow.Author.Tests.{eqb-false, eqb-true, ltb-false, ltb-true}
use Rattle.std.specs.Prelude.{Option, None, Some}
use Rattle.lists.proofs.Laws.{cases}
use Rattle.scheduler.specs.Scheduler.{after_submit, empty_slot, first_waiting, slot_after, slot_answer, slot_at, waiting_there}
use Rattle.scheduler.specs.declared.Job.{Job}
use Rattle.scheduler.specs.declared.Scheduler.{Scheduler}
use Rattle.scheduler.specs.declared.Slot.{Slot}
use Rattle.scheduler_turn.specs.Turn.{after_turn_of, job_answer, served_slot}

-- ---- a slot of the list

set_here : (slots : List Slot) (d : ℕ) (x : Slot) → d < length slots → get_or (set slots d x) d empty_slot ≡ x
set_here slots d x h = get_or-set_same slots d x empty_slot h

set_elsewhere : (slots : List Slot) (d e : ℕ) (x : Slot) → eqb d e ≡ false → get_or (set slots d x) e empty_slot ≡ get_or slots e empty_slot
set_elsewhere slots d e x h = get_or-set_other slots d e x empty_slot (λ p. eqb-false d e h (sym p))

nothing_not : {k : ℕ} {j : Job} → ◌≡◌ {A = Option (ℕ × Job)} None (Some (k, j)) → ⊥
nothing_not p = let z : ◌≡◌ {A = ℕ} 0 1 = cc in omega arith

-- a slot at which a job waits is there
pub waits_below : (slots : List Slot) (d : ℕ) {k : ℕ} {j : Job} → length slots ≡ 8 → (get_or slots d empty_slot).waiting ≡ Some (k, j) → d < 8
waits_below slots d l w =
    ⊎_elim
    (λ (h : ltb d 8 ≡ true). ltb-true d 8 h)
    (λ (h : ltb d 8 ≡ false).
    let z : get_or slots d empty_slot ≡ empty_slot = get_or-eq_default slots empty_slot {n = d} (omega (arith, ltb-false d 8 h)) in
    absurd (nothing_not (sym (ap (λ (x : Slot). x.waiting) z) ∙ w)))
    (cases (ltb d 8))

-- ---- a submission at slot d

module _ (c : Scheduler) (d k : ℕ) (j : Job) where
  pub submit_length : length (after_submit c d k j).slots ≡ length c.slots
  submit_length = ⊎_elim (λ (h : ltb d 8 ≡ true). rw (h, length-set)) (λ (h : ltb d 8 ≡ false). rw h) (cases (ltb d 8))

  pub submit_last : (after_submit c d k j).last ≡ c.last
  submit_last = ⊎_elim (λ (h : ltb d 8 ≡ true). rw h) (λ (h : ltb d 8 ≡ false). rw h) (cases (ltb d 8))

  -- what every submission at a slot keeps, it keeps at every slot
  pub submit_keeps : (P : Slot → Type 0) → ((x : Slot) → P x → P (slot_after (slot_answer x k j) x k j)) → length c.slots ≡ 8
      → (e : ℕ) → P (slot_at c e) → P (slot_at (after_submit c d k j) e)
  submit_keeps P keeps l e p =
      ⊎_elim
      (λ (h : ltb d 8 ≡ true).
      ⊎_elim
      (λ (is : eqb d e ≡ true).
      let z : d ≡ e = eqb-true d e is in
      let here : slot_at (after_submit c d k j) e ≡ slot_after (slot_answer (slot_at c d) k j) (slot_at c d) k j = rw (h, ← z) (set_here c.slots d _ (omega (arith, ltb-true d 8 h))) in
      rw here (keeps (slot_at c d) (rw (← z) at p)))
      (λ (no : eqb d e ≡ false).
      let there : slot_at (after_submit c d k j) e ≡ slot_at c e = rw h (set_elsewhere c.slots d e _ no) in
      rw there p)
      (cases (eqb d e)))
      (λ (h : ltb d 8 ≡ false). rw h p)
      (cases (ltb d 8))

-- ---- whose turn it is

module _ (slots : List Slot) where
  abbrev Waits : Option (ℕ × ℕ × Job) → Type 0
  Waits None = Unit
  Waits (Some (d, k, j)) = (get_or slots d empty_slot).waiting ≡ Some (k, j)

  there_waits : (w : Option (ℕ × Job)) (e : ℕ) (rest : Option (ℕ × ℕ × Job)) → (get_or slots e empty_slot).waiting ≡ w → Waits rest → Waits (waiting_there w e rest)
  there_waits None e rest is later = later
  there_waits (Some (l, i)) e rest is later = is

  all_wait : (n e : ℕ) → Waits (first_waiting slots n e)
  unfolding first_waiting
  all_wait zero e = tt
  all_wait (suc n) e =
      let f = (e + 1) % 8 in
      there_waits (get_or slots f empty_slot).waiting f (first_waiting slots n f) refl (all_wait n f)

  -- the job is the one that waits there
  pub next_waits : (n e : ℕ) {d k : ℕ} {j : Job} → first_waiting slots n e ≡ Some (d, k, j) → (get_or slots d empty_slot).waiting ≡ Some (k, j)
  next_waits n e q = subst Waits q (all_wait n e)

-- slot q places further than the next is the first at which a job waits
pub record First (slots : List Slot) (n l p : ℕ) : Type 0 where
  pub q : ℕ
  pub key : ℕ
  pub job : Job
  pub near : q ≤ p
  pub is : first_waiting slots n l ≡ Some ((l + 1 + q) % 8, key, job)

first_there : (slots : List Slot) (n l p : ℕ) (w : Option (ℕ × Job)) → (get_or slots ((l + 1) % 8) empty_slot).waiting ≡ w
    → (w ≡ None → First slots n ((l + 1) % 8) (p - 1) × (0 < p)) → First slots (suc n) l p
unfolding first_waiting
first_there slots n l p (Some (k, j)) is later =
    let z : (l + 1 + 0) % 8 ≡ (l + 1) % 8 = omega arith in
    record { q = 0; key = k; job = j; near = omega arith; is = rw (is, z) }
first_there slots n l p None is later =
    let f = (later refl).0 in
    let some = (later refl).1 in
    let z : (l + 1 + (f.q + 1)) % 8 ≡ ((l + 1) % 8 + 1 + f.q) % 8 = omega arith in
    record { q = f.q + 1; key = f.key; job = f.job; near = omega (arith, f.near); is = rw (is, z) f.is }

-- where a job waits p places further, of n that are looked at
pub first_within : (slots : List Slot) (n l p d : ℕ) {k : ℕ} {j : Job} → (get_or slots d empty_slot).waiting ≡ Some (k, j) → (l + 1 + p) % 8 ≡ d → p < n → First slots n l p
first_within slots zero l p d w at h = absurd (omega arith)
first_within slots (suc n) l p d w at h =
    let e = (l + 1) % 8 in
    first_there slots n l p (get_or slots e empty_slot).waiting refl (λ none.
    let some : 0 < p =
    ⊎_elim
    (λ (z : ltb 0 p ≡ true). ltb-true 0 p z)
    (λ (z : ltb 0 p ≡ false).
    let y : e ≡ d = omega (arith, ltb-false 0 p z) in
    absurd (nothing_not (sym none ∙ ap (λ (x : ℕ). (get_or slots x empty_slot).waiting) y ∙ w)))
    (cases (ltb 0 p)) in
    (first_within slots n e (p - 1) d w (omega arith) (omega arith), some))

-- where that is another slot, it is nearer, and the job waits p - q - 1 places after it
module _ (l p q d : ℕ) (at : (l + 1 + p) % 8 ≡ d) (near : q ≤ p) (other : (l + 1 + q) % 8 ≡ d → ⊥) where
  pub nearer : q < p
  nearer =
      ⊎_elim
      (λ (h : ltb q p ≡ true). ltb-true q p h)
      (λ (h : ltb q p ≡ false).
      let z : q ≡ p = omega (arith, ltb-false q p h) in
      absurd (other (ap (λ (x : ℕ). (l + 1 + x) % 8) z ∙ at)))
      (cases (ltb q p))

  pub places_after : ((l + 1 + q) % 8 + 1 + (p - q - 1)) % 8 ≡ d
  places_after = omega (arith, nearer)

-- ---- a turn that serves slot e

module _ (c : Scheduler) (s : List ℕ) (e k : ℕ) (j : Job) where
  pub turn_length : length (after_turn_of (Some (e, k, j)) c s).slots ≡ length c.slots
  turn_length = length-set c.slots e (served_slot k j (job_answer j s))

  pub served_here : e < length c.slots → slot_at (after_turn_of (Some (e, k, j)) c s) e ≡ served_slot k j (job_answer j s)
  served_here h = set_here c.slots e (served_slot k j (job_answer j s)) h

  pub served_elsewhere : (d : ℕ) → eqb e d ≡ false → slot_at (after_turn_of (Some (e, k, j)) c s) d ≡ slot_at c d
  served_elsewhere d other = set_elsewhere c.slots e d (served_slot k j (job_answer j s)) other
