-- Keeping uses whose fronts are all different: all of them are kept, each at its front.
use Rattle.lists.proofs.Options.{none-ne-some, some-injective}
use Rattle.std.specs.Prelude.{Option, None, Some}
use Prim.Native.Nat.{◌+◌, ◌<◌, ◌≤◌, ℕ}
use mathlib.Core.Bool.{Bool, false, true}
use mathlib.Core.List.{List, [], ◌∷◌}
use mathlib.Core.Logic.{⊎_elim}
use mathlib.Core.Path.{◌∙◌, ◌≡◌, ap, refl, sym}
use native.Mathlib.Omega.{arith}
use lib.Dec.{eqb}
use lib.ListN.{get_or, length, length-replicate, length-set, replicate, set}
use lib.Seq.{get_or-set_other, get_or-set_same}
use borrow.Author.Tests.{eqb-false, eqb-true}
use Rattle.edge.specs.Uses.{back_of, front_of}
use Rattle.lists.proofs.Alike.{bit_one}
use Rattle.lists.proofs.Count.{All, all_weaker, bit}
use Rattle.lists.proofs.Laws.{cases}
use Rattle.lists.specs.Lists.{count, pick}
use Rattle.shell.proofs.Chain.{Good, from}
use Rattle.shell.proofs.Held.{get_empty, held, held_in, held_none, there, there_none}
use Rattle.shell.specs.Openings.{Kept, keep}

get_in : (kept : Kept) (p r u : ℕ) → p < length kept → get_or (set kept p (Some u)) r None ≡ pick (eqb p r) (Some u) (get_or kept r None)
get_in kept p r u l =
    ⊎_elim
    (λ (e : eqb p r ≡ true). rw (e, ← eqb-true p r e) (get_or-set_same kept p (Some u) None l))
    (λ (e : eqb p r ≡ false). rw e (get_or-set_other kept p r (Some u) None (λ f. eqb-false p r e (sym f))))
    (cases (eqb p r))

there_in : (kept : Kept) (p r u : ℕ) → p < length kept → get_or kept p None ≡ None → there (get_or (set kept p (Some u)) r None) ≡ bit (eqb p r) + there (get_or kept r None)
there_in kept p r u l e =
    ⊎_elim
    (λ (f : eqb p r ≡ true). let h : get_or kept r None ≡ None = rw (eqb-true p r f) at e in rw (get_in kept p r u l, f, h))
    (λ (f : eqb p r ≡ false). rw (get_in kept p r u l, f) (omega arith))
    (cases (eqb p r))

module _ (fronts backs : List ℕ) where
  good_in : (kept : Kept) (u : ℕ) → front_of fronts backs u < length kept → get_or kept (front_of fronts backs u) None ≡ None → Good fronts backs kept
      → Good fronts backs (set kept (front_of fronts backs u) (Some u))
  good_in kept u l e g = record {
    placed = λ r v h. go r v (eqb (front_of fronts backs u) r) (λ f. eqb-true (front_of fronts backs u) r f) (sym (get_in kept (front_of fronts backs u) r u l) ∙ h);
    fit = λ r. omega (arith, held_in (from fronts backs r) kept (front_of fronts backs u) u e l, there_in kept (front_of fronts backs u) r u l e, g.fit r);
  }
    where
      go : (r v : ℕ) (b : Bool) → (b ≡ true → front_of fronts backs u ≡ r) → pick b (Some u) (get_or kept r None) ≡ Some v → front_of fronts backs v ≡ r
      go r v true f h = ap (front_of fronts backs) (sym (some-injective u v h)) ∙ f refl
      go r v false f h = g.placed r v h

  good_empty : (m : ℕ) → Good fronts backs (replicate m None)
  good_empty m = record {
    placed = λ p u h. absurd (none-ne-some u (sym (get_empty m p) ∙ h));
    fit = λ p. held_none (from fronts backs p) (replicate m None) (get_empty m) ∙ sym (ap there (get_empty m p));
  }

  pub record Keeps (us : List ℕ) (kept kept' : Kept) : Type 0 where
    pub good : Good fronts backs kept'
    pub same : (q : ℕ → Bool) → count q (held kept') ≡ count q us + count q (held kept)

  keep_ok : (us : List ℕ) (kept : Kept) → Good fronts backs kept → ((p : ℕ) → count (from fronts backs p) us + count (from fronts backs p) (held kept) ≤ 1)
      → All (λ (u : ℕ). front_of fronts backs u < length kept) us → Keeps us kept (keep (front_of fronts backs) (back_of fronts backs) us kept)
  unfolding keep count
  keep_ok [] kept g d i = record { good = g; same = λ q. omega arith }
  keep_ok (u ∷ us) kept g d i =
      let p = front_of fronts backs u in
      let bare : get_or kept p None ≡ None = there_none (get_or kept p None) (omega (arith, d p, g.fit p, bit_one p p refl)) in
      let r = keep_ok us (set kept p (Some u)) (good_in kept u i.0 bare g)
      (λ q. omega (arith, d q, held_in (from fronts backs q) kept p u bare i.0))
      (all_weaker (λ (v : ℕ). front_of fronts backs v < length kept) (λ (v : ℕ). front_of fronts backs v < length (set kept p (Some u)))
      (λ v h. rw (length-set kept p (Some u)) h) us i.1) in record {
        good = r.good;
        same = λ q. omega (arith, r.same q, held_in q kept p u bare i.0);
      }

  -- from nothing kept
  pub kept_all : (us : List ℕ) (m : ℕ) → ((p : ℕ) → count (from fronts backs p) us ≤ 1) → All (λ (u : ℕ). front_of fronts backs u < m) us
      → (Good fronts backs (keep (front_of fronts backs) (back_of fronts backs) us (replicate m None)))
      × ((q : ℕ → Bool) → count q (held (keep (front_of fronts backs) (back_of fronts backs) us (replicate m None))) ≡ count q us)
  kept_all us m d i =
      let empty : (q : ℕ → Bool) → count q (held (replicate m None)) ≡ 0 = λ q. held_none q (replicate m None) (get_empty m) in
      let long : length {A = Option ℕ} (replicate m None) ≡ m = length-replicate m None in
      let r = keep_ok us (replicate m None) (good_empty m) (λ p. omega (arith, d p, empty (from fronts backs p)))
      (all_weaker (λ (v : ℕ). front_of fronts backs v < m) (λ (v : ℕ). front_of fronts backs v < length {A = Option ℕ} (replicate m None))
      (λ v h. rw long h) us i) in
      (r.good, λ q. omega (arith, r.same q, empty q))
