-- t − t is 0 exactly if t is finite.
use Prim.Native.Nat.{ℕ, ◌*◌, ◌<◌}
use native.Mathlib.Nat.{le_refl, mul-pos, sub_self, zero-mul}
use mathlib.Core.Bool.{Bool, false, not, true}
use mathlib.Core.Path.{◌∙◌, ◌≡◌, ap, refl, sym}
use borrow.Author.Tests.{le-ltb}
use lib.Dec.{lit<}
use lib.Ieee.{Float, binary64, down, fin, inf, nan, ne, of_bits, round, sub, sum, up}
use lib.Ieee.Fits.{down_pos}
use lib.Ieee.Scale.{round_same}
use lib.IntN.{pos}
use Rattle.curve.specs.Curves.{finite}

zero_of_one : (s : Bool) → round binary64 s 0 1 ≡ fin s 0 (pos 0)
unfolding round
zero_of_one s = refl

round_zero : (s : Bool) (c : ℕ) → 0 < c → round binary64 s 0 c ≡ fin s 0 (pos 0)
round_zero s c h = round_same binary64 s 0 c 0 1 h (lit< tt) (sym (zero-mul c)) ∙ zero_of_one s

sum_zero : (s : Bool) (a c : ℕ) → 0 < c → sum binary64 s a (not s) a c ≡ fin false 0 (pos 0)
unfolding sum
sum_zero true a c h = rw (le-ltb a a (le_refl a)) (ap (λ (z : ℕ). round binary64 false z c) (sub_self a) ∙ round_zero false c h)
sum_zero false a c h = rw (le-ltb a a (le_refl a)) (ap (λ (z : ℕ). round binary64 false z c) (sub_self a) ∙ round_zero false c h)

pub self_difference : (t : Float) → ne (sub binary64 t t) (of_bits binary64 0) ≡ not (finite t)
unfolding ne sub of_bits
self_difference nan = refl
self_difference (inf true) = refl
self_difference (inf false) = refl
self_difference (fin s m e) = rw (sum_zero s (m * up e * down e) (down e * down e) (mul-pos (down_pos e) (down_pos e))) refl
