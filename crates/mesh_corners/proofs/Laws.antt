-- What a number in a word names.
use Rattle.mesh.specs.declared.LineFault.{LineFault}
use Rattle.std.specs.Prelude.{Result}
use Prim.Native.Nat.{◌-◌, ℕ}
use mathlib.Core.List.{List, [], ◌∷◌}
use mathlib.Core.Path.{◌≡◌}
use native.Mathlib.Omega.{arith}
use lib.ListN.{drop, get_or, length, length-drop, take}
use lib.Seq.{take_all}
use borrow.Author.Tests.{eq-eqb, ne_eqb}
use Rattle.mesh.specs.Mesh.{backward, forward, numbered}
use Rattle.text.specs.Tokens.{number}

module _ (g : ℕ) (w : List ℕ) {c : Result ℕ LineFault} where
  pub numbered_minus : get_or w 0 0 ≡ 45 → c ≡ backward g (number (drop 1 w)) → c ≡ numbered g w
  unfolding numbered
  numbered_minus h e = rw (e, eq-eqb (get_or w 0 0) 45 h)

  pub numbered_plain : (get_or w 0 0 ≡ 45 → ⊥) → c ≡ forward g (number w) → c ≡ numbered g w
  unfolding numbered
  numbered_plain h e = rw (e, ne_eqb (get_or w 0 0) 45 h)

pub empty_plain : (w : List ℕ) → length w ≡ 0 → get_or w 0 0 ≡ 45 → ⊥
empty_plain [] e h = omega arith
empty_plain (b ∷ w) e h = omega arith

pub rest_whole : (w : List ℕ) → take (length w - 1) (drop 1 w) ≡ drop 1 w
rest_whole w = take_all (length w - 1) (drop 1 w) (simp length-drop (omega arith))
