-- Laws of the kept uses in an array.
use Rattle.std.specs.Prelude.{None, Some, Option}
use Prim.Native.Nat.{◌+◌, ◌<◌, ◌≤◌, suc, zero, ℕ}
use mathlib.Core.Bool.{Bool, false, not, true}
use mathlib.Core.List.{List, [], ◌∷◌}
use mathlib.Core.Logic.{⊎_elim}
use mathlib.Core.Path.{◌∙◌, ◌≡◌, ap, refl, sym}
use native.Mathlib.Nat.{le_of_suc-le-suc}
use native.Mathlib.Omega.{arith}
use lib.Dec.{eqb}
use lib.ListN.{get_or, get_or-replicate, length, length-map, length-replicate, length-set, replicate, set}
use lib.Seq.{get_or-set_other, get_or-set_same, set-get_or}
use borrow.Author.Tests.{eq-eqb, eqb-false, eqb-true, ne_eqb}
use Rattle.edge.specs.Uses.{back_of, edge_number}
use Rattle.lists.proofs.Count.{bit}
use Rattle.lists.proofs.Laws.{cases}
use Rattle.lists.specs.Lists.{count}
use Rattle.openings.specs.Slots.{Holding, kept_in, slot, slots}
use Rattle.shell.specs.Openings.{Kept}

pub slot_none : (u : ℕ) → u ≡ 65535 → slot u ≡ None
slot_none u e = rw (eq-eqb u 65535 e)

pub slot_some : (u : ℕ) → (u ≡ 65535 → ⊥) → slot u ≡ Some u
slot_some u h = rw (ne_eqb u 65535 h)

pub length_slots : (kept : List ℕ) → length (slots kept) ≡ length kept
unfolding slots
length_slots kept = length-map kept slot

pub slots_get : (kept : List ℕ) (p : ℕ) → p < length kept → get_or (slots kept) p None ≡ slot (get_or kept p 0)
unfolding slots
slots_get [] p h = absurd (omega arith)
slots_get (u ∷ kept) zero h = refl
slots_get (u ∷ kept) (suc p) h = slots_get kept p (le_of_suc-le-suc h)

pub slots_set : (kept : List ℕ) (p u : ℕ) → slots (set kept p u) ≡ set (slots kept) p (slot u)
unfolding slots
slots_set [] p u = refl
slots_set (v ∷ kept) zero u = refl
slots_set (v ∷ kept) (suc p) u = ap (λ (r : Kept). slot v ∷ r) (slots_set kept p u)

-- nothing kept anywhere
pub slots_bare : (n : ℕ) → slots (replicate n 65535) ≡ replicate n None
unfolding slots
slots_bare zero = refl
slots_bare (suc n) = ap (λ (r : Kept). None ∷ r) (slots_bare n)

-- the answer of a lookup says what was kept
answer_use : (v u : ℕ) → slot v ≡ Some u → (v ≡ u) × (v ≡ 65535 → ⊥)
answer_use v u e =
    ⊎_elim
    (λ (b : eqb v 65535 ≡ true). let z : None ≡ Some u = rw b at e in let y : ◌≡◌ {A = ℕ} 0 1 = cc in absurd (omega arith))
    (λ (b : eqb v 65535 ≡ false). let z : Some v ≡ Some u = rw b at e in let y : v ≡ u = cc in (y, eqb-false v 65535 b))
    (cases (eqb v 65535))

answer_nothing : (v : ℕ) → slot v ≡ None → v ≡ 65535
answer_nothing v e =
    ⊎_elim
    (λ (b : eqb v 65535 ≡ true). eqb-true v 65535 b)
    (λ (b : eqb v 65535 ≡ false). let z : Some v ≡ None = rw b at e in let y : ◌≡◌ {A = ℕ} 0 1 = cc in absurd (omega arith))
    (cases (eqb v 65535))

pub kept_le : (kept : List ℕ) → kept_in kept ≤ length kept
unfolding kept_in count
kept_le [] = omega arith
kept_le (u ∷ kept) = omega (arith, kept_le kept, small (not (eqb u 65535)))
  where
    small : (b : Bool) → bit b ≤ 1
    small true = omega arith
    small false = omega arith

-- a kept use taken
pub kept_out : (kept : List ℕ) (p : ℕ) → p < length kept → (get_or kept p 0 ≡ 65535 → ⊥) → kept_in kept ≡ 1 + kept_in (set kept p 65535)
unfolding kept_in count
kept_out [] p h n = absurd (omega arith)
kept_out (u ∷ kept) zero h n = let e : bit (not (eqb u 65535)) ≡ 1 = rw (ne_eqb u 65535 n) in omega arith
kept_out (u ∷ kept) (suc p) h n = omega (arith, kept_out kept p (le_of_suc-le-suc h) n)

-- where none was kept nothing changes
pub kept_still : (kept : List ℕ) (p : ℕ) → get_or kept p 0 ≡ 65535 → set kept p 65535 ≡ kept
kept_still kept p e = rw e at (set-get_or kept p 0)

module _ (fronts backs : List ℕ) where
  abbrev Fit : ℕ → ℕ → Type 0
  Fit n u = (edge_number u < length fronts) × (back_of fronts backs u < n)

  holding_set : (kept : List ℕ) (p u : ℕ) → Holding fronts backs kept → ((u ≡ 65535 → ⊥) → Fit (length kept) u) → Holding fronts backs (set kept p u)
  holding_set kept p u h f = record { alike = h.alike; edge = λ q l n. (at q l n).0; point = λ q l n. (at q l n).1 }
    where
      at : (q : ℕ) → q < length (set kept p u) → (get_or (set kept p u) q 0 ≡ 65535 → ⊥) → Fit (length (set kept p u)) (get_or (set kept p u) q 0)
      at q l n =
          let l' : q < length kept = rw (length-set kept p u) at l in
          ⊎_elim
          (λ (b : eqb q p ≡ true).
          let e : get_or (set kept p u) q 0 ≡ u = rw (eqb-true q p b) (get_or-set_same kept p u 0 (rw (eqb-true q p b) at l')) in
          rw (e, length-set kept p u) (f (λ z. n (e ∙ z))))
          (λ (b : eqb q p ≡ false).
          let e : get_or (set kept p u) q 0 ≡ get_or kept q 0 = get_or-set_other kept p q u 0 (eqb-false q p b) in
          let m : get_or kept q 0 ≡ 65535 → ⊥ = λ z. n (e ∙ z) in
          rw (e, length-set kept p u) (h.edge q l' m, h.point q l' m))
          (cases (eqb q p))

  pub holding_out : (kept : List ℕ) (p : ℕ) → Holding fronts backs kept → Holding fronts backs (set kept p 65535)
  holding_out kept p h = holding_set kept p 65535 h (λ n. absurd (n refl))

  pub holding_in : (kept : List ℕ) (p u : ℕ) → Holding fronts backs kept → edge_number u < length fronts → back_of fronts backs u < length kept
      → Holding fronts backs (set kept p u)
  holding_in kept p u h a b = holding_set kept p u h (λ n. (a, b))

  pub holding_bare : (n : ℕ) → length backs ≡ length fronts → Holding fronts backs (replicate n 65535)
  holding_bare n e = record {
    alike = e;
    edge = λ p l h. absurd (h (get_or-replicate n p 65535 0 (rw (length-replicate {A = ℕ} n 65535) at l)));
    point = λ p l h. absurd (h (get_or-replicate n p 65535 0 (rw (length-replicate {A = ℕ} n 65535) at l)));
  }

-- what a lookup answers
module _ (kept : List ℕ) (p : ℕ) (l : p < length kept) where
  pub finds_nothing : get_or kept p 0 ≡ 65535 → None ≡ get_or (slots kept) p None
  finds_nothing e = rw (slots_get kept p l, slot_none (get_or kept p 0) e)

  pub finds_use : (get_or kept p 0 ≡ 65535 → ⊥) → Some (get_or kept p 0) ≡ get_or (slots kept) p None
  finds_use n = rw (slots_get kept p l, slot_some (get_or kept p 0) n)

  -- what is known of the answer
  pub found_use : (a : Option ℕ) (u : ℕ) → a ≡ get_or (slots kept) p None → a ≡ Some u → (get_or kept p 0 ≡ u) × (get_or kept p 0 ≡ 65535 → ⊥)
  found_use a u e f = answer_use (get_or kept p 0) u (rw (slots_get kept p l) at (sym e ∙ f))

  pub found_nothing : (a : Option ℕ) → a ≡ get_or (slots kept) p None → a ≡ None → get_or kept p 0 ≡ 65535
  found_nothing a e f = answer_nothing (get_or kept p 0) (rw (slots_get kept p l) at (sym e ∙ f))
