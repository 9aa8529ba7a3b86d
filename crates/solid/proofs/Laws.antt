-- The first error of a shell, case by case; that of a solid, shell by shell.
use Rattle.std.specs.Prelude.{Err, Ok}
use Prim.Native.Nat.{◌+◌, ◌<◌, suc, zero, ℕ}
use mathlib.Core.Bool.{Bool, false, not, true}
use mathlib.Core.List.{List, [], ◌++◌, ◌∷◌, map}
use mathlib.Core.Path.{◌≡◌, refl, sym}
use native.Mathlib.Omega.{arith}
use lib.Dec.{eqb}
use borrow.Author.Tests.{eq-eqb, le-ltb, lt-ltb, ne_eqb, not-false, not-true}
use Rattle.lists.proofs.Parts.{flat_numbers}
use Rattle.lists.specs.Lists.{flat, numbers}
use Rattle.solid.specs.Solid.{errors_of, first_of_solid, in_shell}
use Rattle.solid.specs.declared.ShellError.{ShellError}
use Rattle.solid.specs.declared.ShellError.TheVariants.{EmptyShell, NotClosedShell, NotConnected, NotManifold}
use Rattle.solid.specs.declared.SolidError.{SolidError}
use Rattle.solid.specs.Sequence.{and_then, first_error, in_solid}

module _ (n : ℕ) (c : Bool) (w s : ℕ) where
  pub error_empty : n ≡ 0 → Err EmptyShell ≡ first_error (errors_of n c w s)
  error_empty h = rw (le-ltb 0 n (omega arith))

  module _ (some : n ≡ 0 → ⊥) where
    positive : 0 < n
    positive = omega arith

    pub error_apart : not c ≡ true → Err NotConnected ≡ first_error (errors_of n c w s)
    error_apart h = rw (lt-ltb 0 n positive, not-true c h)

    module _ (one : not c ≡ false) where
      pub error_open : eqb w 3 ≡ false → Err NotClosedShell ≡ first_error (errors_of n c w s)
      error_open h = rw (lt-ltb 0 n positive, not-false c one, h)

      pub error_point : eqb w 3 ≡ true → (s ≡ 0 → ⊥) → Err NotManifold ≡ first_error (errors_of n c w s)
      error_point e h = rw (lt-ltb 0 n positive, not-false c one, e, ne_eqb 0 s (λ o. h (sym o)))

      pub error_none : eqb w 3 ≡ true → s ≡ 0 → Ok tt ≡ first_error (errors_of n c w s)
      error_none e h = rw (lt-ltb 0 n positive, not-false c one, e, eq-eqb 0 s (sym h))

-- what is wrong with a shell is what is wrong with a solid of it
in_solid_none : (n : ℕ) (es : List ShellError) → first_error es ≡ Ok tt → in_shell n es ≡ []
in_solid_none n [] h = refl
in_solid_none n (e ∷ es) h = cc

in_solid_first : (n : ℕ) (es : List ShellError) (e : ShellError) → first_error es ≡ Err e → first_of_solid (in_shell n es) ≡ Err (record { shell = n; reason = e })
in_solid_first n [] e h = cc
in_solid_first n (d ∷ es) e h = let is : d ≡ e = cc in rw is

in_solid_is : (n : ℕ) (es : List ShellError) → in_solid n (first_error es) ≡ first_of_solid (in_shell n es)
in_solid_is n [] = refl
in_solid_is n (e ∷ es) = refl

first_append : (xs ys : List SolidError) → first_of_solid (xs ++ ys) ≡ and_then (first_of_solid xs) (first_of_solid ys)
first_append [] ys = refl
first_append (x ∷ xs) ys = refl

first_of : (xs ys : List SolidError) (e : SolidError) → first_of_solid xs ≡ Err e → first_of_solid (xs ++ ys) ≡ Err e
first_of [] ys e h = cc
first_of (x ∷ xs) ys e h = h

module _ (g : ℕ → List ShellError) where
  abbrev pub errors_to : ℕ → List SolidError
  errors_to n = flat (map (λ (i : ℕ). in_shell i (g i)) (numbers n))

  -- one shell more
  pub solid_next : (n : ℕ) → first_of_solid (errors_to (suc n)) ≡ and_then (first_of_solid (errors_to n)) (in_solid n (first_error (g n)))
  solid_next n = rw (flat_numbers (λ (i : ℕ). in_shell i (g i)) n, in_solid_is n (g n)) (first_append (errors_to n) (in_shell n (g n)))

  -- one without error
  pub solid_passes : (n : ℕ) → errors_to n ≡ [] → first_error (g n) ≡ Ok tt → errors_to (suc n) ≡ []
  solid_passes n none fine = rw (flat_numbers (λ (i : ℕ). in_shell i (g i)) n, none, in_solid_none n (g n) fine)

  -- one with an error, which is that of all of them
  pub solid_stops : (n k : ℕ) → errors_to n ≡ [] → (e : ShellError) → first_error (g n) ≡ Err e
      → first_of_solid (errors_to (suc n + k)) ≡ Err (record { shell = n; reason = e })
  solid_stops n zero none e is =
      let z : suc n + 0 ≡ suc n = omega arith in
      rw (z, flat_numbers (λ (i : ℕ). in_shell i (g i)) n, none) (in_solid_first n (g n) e is)
  solid_stops n (suc k) none e is =
      let z : suc n + suc k ≡ suc (suc n + k) = omega arith in
      rw (z, flat_numbers (λ (i : ℕ). in_shell i (g i)) (suc n + k)) (first_of (errors_to (suc n + k)) _ _ (solid_stops n k none e is))
