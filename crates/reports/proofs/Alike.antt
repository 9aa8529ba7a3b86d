-- A listing that is there already, or one of a face without wires, changes nothing of the groups: the pairs show the same as the listings.
use Prim.Native.Nat.{◌≤◌, ℕ}
use mathlib.Core.Bool.{Bool, false, true}
use mathlib.Core.List.{List, [], ◌∷◌, map}
use mathlib.Core.Logic.{⊎_elim}
use mathlib.Core.Path.{◌≡◌, refl}
use native.Mathlib.Omega.{arith}
use lib.ListN.{get_or, length}
use borrow.Author.Tests.{ltb-false}
use Rattle.lists.proofs.Laws.{cases}
use Rattle.lists.specs.Lists.{flat, only}
use Rattle.shell.specs.Components.{has_wires}
use Rattle.shell.specs.Shells.{face_number, shown_wire, shown_wires}

module _ (q : ℕ → Bool) where
  -- what shows nothing where the test fails
  pub flat_only : {A : Type 0} (f : ℕ → List A) → ((x : ℕ) → q x ≡ false → f x ≡ []) → (xs : List ℕ) → flat (map f (only q xs)) ≡ flat (map f xs)
  unfolding only flat
  flat_only f h [] = refl
  flat_only f h (x ∷ xs) =
      ⊎_elim
      (λ (t : q x ≡ true). rw (t, flat_only f h xs))
      (λ (t : q x ≡ false). rw (t, h x t, flat_only f h xs))
      (cases (q x))

-- a face without wires shows none
pub no_wires : (faces : List (List (List ℕ))) (l : ℕ) → has_wires faces l ≡ false → shown_wires faces l ≡ []
no_wires faces l h = bare (get_or faces (face_number l) []) (ltb-false 0 (length (get_or faces (face_number l) [])) h)
  where
    bare : (wires : List (List ℕ)) → length wires ≤ 0 → map (shown_wire l) wires ≡ []
    bare [] e = refl
    bare (us ∷ wires) e = absurd (omega arith)
