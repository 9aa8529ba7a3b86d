-- The magnitude of an f64 times 10^k.
use Rattle.std.proofs.Common.{◌≡◌, ℕ, ◌%◌, ◌^◌, ◌≤◌, false, refl, ◌∙◌, arith, le-ltb}
use lib.Ieee.Bits.{nan_bits_above}
use lib.Ieee.{Float, add, binary64, mul, nan_bits, of_bits, round, to_unsigned}
use Rattle.decimals.specs.Decimals.{scaled}

half : of_bits binary64 0x3fe0000000000000 ≡ round binary64 false 1 2
unfolding of_bits round
half = refl

pub scaled_is : (bits k : ℕ) (p : Float) → p ≡ round binary64 false (10 ^ k) 1
    → to_unsigned 64 (add binary64 (mul binary64 (of_bits binary64 (bits % 0x8000000000000000)) p) (of_bits binary64 0x3fe0000000000000)) ≡ scaled bits k
scaled_is bits k p e = rw (e, half)

pub no_nan : (n : ℕ) → n % 0x8000000000000000 ≤ 0x412e848000000000 → nan_bits binary64 (n % 0x8000000000000000) ≡ false
no_nan n h = nan_bits_above binary64 (n % 0x8000000000000000) ∙ le-ltb 0x7ff0000000000000 (n % 0x8000000000000000 % 0x8000000000000000) (omega arith)
