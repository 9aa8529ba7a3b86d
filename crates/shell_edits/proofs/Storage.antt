-- Lists in storage, and the seven counts.
use Prim.Native.Nat.{◌+◌, ◌≤◌, ℕ}
use mathlib.Core.List.{List, [], ◌++◌, ◌∷◌}
use mathlib.Core.Path.{◌∙◌, ◌≡◌, refl, sym}
use native.Mathlib.Omega.{arith}
use lib.ListN.{get_or, length, take, take-append-drop}
use lib.Seq.{length-take-le, sets, sets-eq}
use Rattle.lists.proofs.Sets.{sets_append}

-- a list stored over its own first places, and with more after them
module _ {ℓ} {A : Type ℓ} (xs : List A) (n : ℕ) (h : n ≤ length xs) where
  pub sets_own : sets xs 0 (take n xs) ≡ xs
  sets_own =
      let e : length (take n xs) ≡ n = length-take-le n xs h in
      let z : 0 + length (take n xs) ≡ n = omega (arith, e) in
      sets-eq (take n xs) xs 0 (omega (arith, e)) ∙ rw z (take-append-drop n xs)

  pub sets_after : (ys : List A) → sets xs 0 (take n xs ++ ys) ≡ sets xs n ys
  sets_after ys =
      let e : 0 + length (take n xs) ≡ n = omega (arith, length-take-le n xs h) in
      sym (sets_append xs 0 (take n xs) ys) ∙ rw (sets_own, e)

-- seven counts, one by one
pub seven_are : (ns : List ℕ) → length ns ≡ 7
    → get_or ns 0 0 ∷ get_or ns 1 0 ∷ get_or ns 2 0 ∷ get_or ns 3 0 ∷ get_or ns 4 0 ∷ get_or ns 5 0 ∷ get_or ns 6 0 ∷ [] ≡ ns
seven_are (a ∷ b ∷ c ∷ d ∷ e ∷ f ∷ g ∷ []) h = refl
seven_are [] h = absurd (omega arith)
seven_are (a ∷ []) h = absurd (omega arith)
seven_are (a ∷ b ∷ []) h = absurd (omega arith)
seven_are (a ∷ b ∷ c ∷ []) h = absurd (omega arith)
seven_are (a ∷ b ∷ c ∷ d ∷ []) h = absurd (omega arith)
seven_are (a ∷ b ∷ c ∷ d ∷ e ∷ []) h = absurd (omega arith)
seven_are (a ∷ b ∷ c ∷ d ∷ e ∷ f ∷ []) h = absurd (omega arith)
seven_are (a ∷ b ∷ c ∷ d ∷ e ∷ f ∷ g ∷ i ∷ ns) h = absurd (omega arith)
