-- The last digits of a number, written one after the other.
use Rattle.std.proofs.Common.{◌≡◌, ℕ, zero, suc, ◌+◌, ◌-◌, ◌/◌, ◌%◌, List, [], ◌∷◌, ◌++◌, length, set, refl, ap, ◌∙◌, arith, length-append, lt-ltb}
use lib.Seq.{sets}
use Rattle.decimals.specs.Decimals.{last_digits, last_hex}
use Rattle.decimals.specs.Parts.{digit_byte, last_in}
use Rattle.lists.proofs.Sets.{sets_then}

module _ (base : ℕ) where
  pub last_long : (d n : ℕ) → length (last_in base d n) ≡ d
  unfolding last_in
  last_long zero n = refl
  last_long (suc d) n = omega (arith, length-append (last_in base d (n / base)) (digit_byte (n % base) ∷ []), last_long d (n / base))

  pub last_none : (l : List ℕ) (at d n : ℕ) → d ≡ 0 → l ≡ sets l at (last_in base d n)
  unfolding last_in
  last_none l at d n h = rw h

  one_more : (d n : ℕ) → (d ≡ 0 → ⊥) → last_in base (d - 1) (n / base) ++ (digit_byte (n % base) ∷ []) ≡ last_in base d n
  unfolding last_in
  one_more zero n h = absurd (h refl)
  one_more (suc d) n h = let e : suc d - 1 ≡ d = omega arith in rw e

  pub last_next : (l : List ℕ) (at d n : ℕ) (out : List ℕ) (b : ℕ) → (d ≡ 0 → ⊥) → out ≡ sets l at (last_in base (d - 1) (n / base))
      → b ≡ digit_byte (n % base) → set out (at + (d - 1)) b ≡ sets l at (last_in base d n)
  last_next l at d n out b h e f =
      sets_then l at (last_in base (d - 1) (n / base)) (digit_byte (n % base) ∷ []) (at + (d - 1)) (omega (arith, last_long (d - 1) (n / base))) e (rw f)
      ∙ ap (sets l at) (one_more d n h)

pub last_tens : (d n : ℕ) → last_in 10 d n ≡ last_digits d n
unfolding last_in last_digits
last_tens zero n = refl
last_tens (suc d) n = rw (last_tens d (n / 10), lt-ltb (n % 10) 10 (omega arith))

pub last_hex_lem : (d n : ℕ) → last_in 16 d n ≡ last_hex d n
unfolding last_in last_hex
last_hex_lem zero n = refl
last_hex_lem (suc d) n = rw (last_hex_lem d (n / 16))
