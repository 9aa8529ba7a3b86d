-- The last number, and the first element, that passes a test.
use Prim.Native.Nat.{◌<◌, ◌≤◌, suc, zero, ℕ}
use Rattle.std.specs.Prelude.{None, Option, Some}
use mathlib.Core.Bool.{Bool, false, true}
use mathlib.Core.List.{List, [], ◌∷◌}
use mathlib.Core.Logic.{⊎_elim}
use mathlib.Core.Path.{◌∙◌, ◌≡◌, ap, refl, sym}
use native.Mathlib.Omega.{arith}
use lib.Dec.{eqb, ltb}
use lib.ListN.{get_or, length}
use borrow.Author.Tests.{eqb-false, eqb-true, le-ltb, lt-ltb, ltb-false, ltb-true}
use Rattle.lists.proofs.Laws.{cases}
use Rattle.mesh.specs.Mesh.{place}
use Rattle.mesh_edges.specs.Index.{found, latest}

module _ (test : ℕ → Bool) where
  pub latest_here : (n : ℕ) → test n ≡ true → latest test (suc n) ≡ suc n
  unfolding latest
  latest_here n h = rw h

  pub latest_past : (n : ℕ) → test n ≡ false → latest test (suc n) ≡ latest test n
  unfolding latest
  latest_past n h = rw h

  pub latest_le : (n : ℕ) → latest test n ≤ n
  unfolding latest
  latest_le zero = omega arith
  latest_le (suc n) =
      ⊎_elim
      (λ (h : test n ≡ true). omega (arith, latest_here n h))
      (λ (h : test n ≡ false). omega (arith, latest_past n h, latest_le n))
      (cases (test n))

  pub latest_passes : (n k : ℕ) → latest test n ≡ suc k → test k ≡ true
  unfolding latest
  latest_passes zero k e = absurd (omega arith)
  latest_passes (suc n) k e =
      ⊎_elim
      (λ (h : test n ≡ true). let o : k ≡ n = omega (arith, latest_here n h) in rw o h)
      (λ (h : test n ≡ false). latest_passes n k (sym (latest_past n h) ∙ e))
      (cases (test n))

  pub latest_fails : (n k : ℕ) → latest test n ≤ k → k < n → test k ≡ false
  latest_fails zero k l b = absurd (omega arith)
  latest_fails (suc n) k l b =
      ⊎_elim
      (λ (h : test n ≡ true). absurd (omega (arith, latest_here n h)))
      (λ (h : test n ≡ false).
      ⊎_elim
      (λ (o : eqb k n ≡ true). rw (eqb-true k n o) h)
      (λ (o : eqb k n ≡ false). let ne = eqb-false k n o in latest_fails n k (omega (arith, latest_past n h)) (omega arith))
      (cases (eqb k n)))
      (cases (test n))

-- the same test below n
pub latest_same : (f g : ℕ → Bool) (n : ℕ) → ((k : ℕ) → k < n → f k ≡ g k) → latest f n ≡ latest g n
unfolding latest
latest_same f g zero same = refl
latest_same f g (suc n) same = rw (same n (omega arith), latest_same f g n (λ k h. same k (omega arith)))

module _ {A : Type 0} (test : A → Bool) (d : A) where
  pub place_none : (xs : List A) → ((k : ℕ) → k < length xs → test (get_or xs k d) ≡ false) → place test xs ≡ length xs
  unfolding place
  place_none [] none = refl
  place_none (x ∷ xs) none = rw (none 0 (omega arith), place_none xs (λ k h. none (suc k) (omega arith)))

  pub place_here : (xs : List A) (e : ℕ) → e < length xs → test (get_or xs e d) ≡ true → ((k : ℕ) → k < e → test (get_or xs k d) ≡ false)
      → place test xs ≡ e
  unfolding place
  place_here [] e h here before = absurd (omega arith)
  place_here (x ∷ xs) zero h here before = rw here
  place_here (x ∷ xs) (suc e) h here before =
      rw (before 0 (omega arith)) (ap suc (place_here xs e (omega arith) here (λ k b. before (suc k) (omega arith))))

  place_le : (xs : List A) → place test xs ≤ length xs
  unfolding place
  place_le [] = omega arith
  place_le (x ∷ xs) =
      ⊎_elim
      (λ (h : test x ≡ true). rw h (omega arith))
      (λ (h : test x ≡ false). rw h (omega (arith, place_le xs)))
      (cases (test x))

  -- what is found is the place; where nothing is, that is past the last
  pub found_here : (xs : List A) (k : ℕ) → k ≡ place test xs → k < length xs → Some k ≡ found test xs
  found_here xs k e h = rw (← e, lt-ltb k (length xs) h)

  pub found_none : (xs : List A) → place test xs ≡ length xs → None ≡ found test xs
  found_none xs e = rw (e, le-ltb (length xs) (length xs) (omega arith))

  pub found_at : (xs : List A) (k : ℕ) → found test xs ≡ Some k → (k ≡ place test xs) × (k < length xs)
  found_at xs k e =
      ⊎_elim
      (λ (h : ltb (place test xs) (length xs) ≡ true). let i : ◌≡◌ {A = Option ℕ} (Some (place test xs)) (Some k) = rw h at e in let j : place test xs ≡ k = cc in (sym j, rw j at (ltb-true (place test xs) (length xs) h)))
      (λ (h : ltb (place test xs) (length xs) ≡ false). let i : ◌≡◌ {A = Option ℕ} None (Some k) = rw h at e in cc)
      (cases (ltb (place test xs) (length xs)))

  pub found_not : (xs : List A) → found test xs ≡ None → place test xs ≡ length xs
  found_not xs e =
      ⊎_elim
      (λ (h : ltb (place test xs) (length xs) ≡ true). let i : ◌≡◌ {A = Option ℕ} (Some (place test xs)) None = rw h at e in cc)
      (λ (h : ltb (place test xs) (length xs) ≡ false). omega (arith, ltb-false (place test xs) (length xs) h, place_le xs))
      (cases (ltb (place test xs) (length xs)))

  first : (x : A) (xs : List A) → test x ≡ false → ((k : ℕ) → k < length xs → test (get_or xs k d) ≡ false)
      → (k : ℕ) → k < suc (length xs) → test (get_or (x ∷ xs) k d) ≡ false
  first x xs t none zero h = t
  first x xs t none (suc k) h = none k (omega arith)

  -- where none passes
  pub none_placed : (xs : List A) → place test xs ≡ length xs → (k : ℕ) → k < length xs → test (get_or xs k d) ≡ false
  unfolding place
  none_placed [] e k h = absurd (omega arith)
  none_placed (x ∷ xs) e k h =
      ⊎_elim
      (λ (t : test x ≡ true). let z = rw t at e in absurd (omega arith))
      (λ (t : test x ≡ false). let z = rw t at e in first x xs t (none_placed xs (omega arith)) k h)
      (cases (test x))
