use Prim.Native.Nat.{ℕ, ◌%◌, ◌<◌, ◌^◌, ◌≤◌}
use mathlib.Core.Bool.{false, true}
use mathlib.Core.Path.{◌∙◌, ◌≡◌, refl}
use borrow.Author.Tests.{le-ltb, lt-ltb}
use lib.Ieee.{binary64, nan_bits}
use lib.Ieee.Bits.{nan_bits_above}
use Rattle.curve.proofs.parameter_of.Goals as goal

nan_above : (n : ℕ) → 0x7ff0_0000_0000_0000 < n % 2 ^ 63 → nan_bits binary64 n ≡ true
nan_above n h = nan_bits_above binary64 n ∙ lt-ltb 0x7ff0_0000_0000_0000 (n % 2 ^ 63) h

no_nan_upto : (n : ℕ) → n % 2 ^ 63 ≤ 0x7ff0_0000_0000_0000 → nan_bits binary64 n ≡ false
no_nan_upto n h = nan_bits_above binary64 n ∙ le-ltb 0x7ff0_0000_0000_0000 (n % 2 ^ 63) h

pub returns-then-bits-gt9218868437227405312 : goal.returns-then-bits-gt9218868437227405312
returns-then-bits-gt9218868437227405312 c = rw (nan_above _ c.if-bits-gt9218868437227405312.true) refl

pub float_from_bits-result : goal.float_from_bits-result
float_from_bits-result c = rw (no_nan_upto _ c.if-bits-gt9218868437227405312.false) tt

pub returns : goal.returns
returns c = rw (no_nan_upto _ c.if-bits-gt9218868437227405312.false) refl
