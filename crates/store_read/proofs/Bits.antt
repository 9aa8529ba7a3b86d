-- The bits of an f64: those of a NaN give the NaN.
use Prim.Native.Nat.{◌%◌, ◌<◌, ◌≤◌, ℕ}
use mathlib.Core.Bool.{not, true}
use mathlib.Core.Path.{◌∙◌, ◌≡◌, refl, sym}
use lib.Dec.{T}
use lib.Ieee.Bits.{nan_bits_above, nan_bits_is}
use lib.Ieee.{Float, binary64, fin, inf, is_nan, nan, nan_bits, of_bits}
use borrow.Author.Tests.{le-ltb, lt-ltb}

-- bits above the infinity's, without the sign, are a NaN's
nan_of : (x : Float) → is_nan x ≡ true → x ≡ nan
unfolding is_nan
nan_of nan h = refl
nan_of (inf s) h = cc
nan_of (fin s m e) h = cc

pub nan_bits_lem : (n : ℕ) → 9218868437227405312 < n % 9223372036854775808 → of_bits binary64 n ≡ nan
nan_bits_lem n h =
    nan_of (of_bits binary64 n)
    (sym (nan_bits_is binary64 n) ∙ nan_bits_above binary64 n ∙ lt-ltb 9218868437227405312 (n % 9223372036854775808) h)

pub no_nan_bits : (n : ℕ) → n % 9223372036854775808 ≤ 9218868437227405312 → T (not (nan_bits binary64 n))
no_nan_bits n h = rw (nan_bits_above binary64 n, le-ltb 9218868437227405312 (n % 9223372036854775808) h) tt
