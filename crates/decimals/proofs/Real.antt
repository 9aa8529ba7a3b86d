-- An f64's word by its first two bytes.
use Rattle.std.proofs.Common.{◌≡◌, ℕ, false, ◌&&◌, eqb, List, get_or, ne_eqb}
use mathlib.Core.Bool.{and-false}
use Rattle.decimals.specs.Decimals.{hex, real, unsigned}

module _ (w : List ℕ) where
  pub hex_word : get_or w 0 0 ≡ 48 → get_or w 1 0 ≡ 120 → hex w ≡ real w
  unfolding real
  hex_word p q = rw (p, q)

  pub other_second : (get_or w 0 0 ≡ 45 → ⊥) → (get_or w 1 0 ≡ 120 → ⊥) → unsigned false w ≡ real w
  unfolding real
  other_second m h =
      let e : (eqb (get_or w 0 0) 48 && eqb (get_or w 1 0) 120) ≡ false = rw (ne_eqb (get_or w 1 0) 120 h, and-false (eqb (get_or w 0 0) 48)) in
      rw (e, ne_eqb (get_or w 0 0) 45 m)
