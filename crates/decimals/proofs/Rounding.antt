-- The quotient of two whole numbers that are exact is rounded once; its sign, and its bits.
use Rattle.std.proofs.Common.{◌≡◌, ℕ, zero, suc, ◌+◌, ◌*◌, ◌^◌, ◌<◌, ◌≤◌, Bool, true, false, cond, not, T, ltb, ℤ, pos, refl, ap, mul-pos, arith, ne_eqb}
use native.Mathlib.Nat.{one-le-pow, pow-le-pow_right}
use lib.Ieee.Back.{round_whole}
use lib.Ieee.Bits.{to_bits-lt}
use lib.Ieee.Exact.{HasValue}
use lib.Ieee.Fits.{down_pos, round-fits}
use lib.Ieee.Positive.{first_pos}
use lib.Ieee.Scale.{round_same}
use lib.Ieee.{Float, Format, binary64, div, down, emax, fin, inf, is_nan, low, nan, odd, of_int, prec, round, to_bits, top, units, up}
use Rattle.decimals.specs.Decimals.{nearest_bits}

-- m / p, of floats that are m and p
pub quotient : (f : Format) (x y : Float) (m p : ℕ) → 0 < p → HasValue x false m 1 → HasValue y false p 1 → div f x y ≡ round f false m p
unfolding div
quotient f nan y m p P v w = absurd v
quotient f (inf s) y m p P v w = absurd v
quotient f (fin s a e) nan m p P v w = absurd w
quotient f (fin s a e) (inf t) m p P v w = absurd w
quotient f (fin s a e) (fin t b d) m p P v w =
    let W : 0 < b * up d = above (b * up d) (p * down d) (mul-pos P (down_pos d)) w.1 in
    rw (v.0, w.0, ne_eqb b 0 (λ z. not_zero b (first_pos b (up d) W) z))
    (round_same f false (a * up e * down d) (b * up d * down e) m p (mul-pos W (down_pos e)) P
    (cross (a * up e) (b * up d) (down e) (down d) m p v.1 w.1))
  where
    above : (x y : ℕ) → 0 < y → x * 1 ≡ y → 0 < x
    above x y Y h = omega arith

    not_zero : (b : ℕ) → 0 < b → b ≡ 0 → ⊥
    not_zero b B z = omega arith

    cross : (x y e d m p : ℕ) → x * 1 ≡ m * e → y * 1 ≡ p * d → x * d * p ≡ m * (y * e)
    cross x y e d m p h k =
        let h' : x ≡ m * e = omega arith in
        let k' : y ≡ p * d = omega arith in
        rw (h', k') (omega arith)

-- what is rounded is no NaN, and its sign is one bit
units_no_nan : (f : Format) (s : Bool) (q k : ℕ) → is_nan (units f s q k) ≡ false
unfolding units is_nan odd
units_no_nan f s q k = go (ltb (q * 2 ^ k) (2 ^ (low f + suc (emax f)))) q
  where
    go : (b : Bool) (q : ℕ) → is_nan (cond b (odd (suc (prec f)) s q k (low f)) (inf s)) ≡ false
    go true zero = refl
    go true (suc q) = refl
    go false q = refl

pub round_no_nan : (f : Format) (s : Bool) (m p : ℕ) → is_nan (round f s m p) ≡ false
unfolding round
round_no_nan f s m p = units_no_nan f s _ _

fin_sign : (f : Format) (m : ℕ) (e : ℤ) → to_bits f (fin true m e) ≡ top f + to_bits f (fin false m e)
unfolding to_bits
fin_sign f m e = sum (top f) _ _
  where
    sum : (a b c : ℕ) → a + b + c ≡ a + (0 + b + c)
    sum a b c = omega arith

inf_sign : (f : Format) → to_bits f (inf true) ≡ top f + to_bits f (inf false)
unfolding to_bits
inf_sign f = omega arith

units_sign : (f : Format) (q k : ℕ) → to_bits f (units f true q k) ≡ top f + to_bits f (units f false q k)
unfolding units odd
units_sign f q k = go (ltb (q * 2 ^ k) (2 ^ (low f + suc (emax f)))) q
  where
    go : (b : Bool) (q : ℕ) → to_bits f (cond b (odd (suc (prec f)) true q k (low f)) (inf true)) ≡ top f + to_bits f (cond b (odd (suc (prec f)) false q k (low f)) (inf false))
    go true zero = fin_sign f _ _
    go true (suc q) = fin_sign f _ _
    go false q = inf_sign f

pub round_sign : (f : Format) (m p : ℕ) → to_bits f (round f true m p) ≡ top f + to_bits f (round f false m p)
unfolding round
round_sign f m p = units_sign f _ _

-- of whole numbers
pub quotient_whole : (f : Format) (m p : ℕ) → m ≤ 2 ^ prec f → p ≤ 2 ^ prec f → 0 < p → div f (round f false m 1) (round f false p 1) ≡ round f false m p
quotient_whole f m p h k P = quotient f (round f false m 1) (round f false p 1) m p P (round_whole f false m h) (round_whole f false p k)

-- 10^k for the k of 15 digits
pub ten_pos : (k : ℕ) → 0 < 10 ^ k
ten_pos k = one-le-pow k 10 (omega arith)

pub ten_most : (k : ℕ) → k ≤ 15 → 10 ^ k ≤ 1000000000000000
ten_most k h = pow-le-pow_right {n = 10} (omega arith) {i = k} {j = 15} h

pub nearest_quotient : (m k : ℕ) → m < 1000000000000000 → k ≤ 15
    → div binary64 (round binary64 false m 1) (round binary64 false (10 ^ k) 1) ≡ round binary64 false m (10 ^ k)
nearest_quotient m k h l = quotient_whole binary64 m (10 ^ k) (omega arith) (omega (arith, ten_most k l)) (ten_pos k)

pub nearest_bits_lt : (s : Bool) (m k : ℕ) → nearest_bits s m k < 18446744073709551616
unfolding nearest_bits
nearest_bits_lt s m k = to_bits-lt binary64 (round binary64 s m (10 ^ k)) (round-fits binary64 s m (10 ^ k))

-- the quotient x / y is the f64 nearest to m / 10^k
pub record Quotient (x y : Float) (m k : ℕ) : Type 0 where
  pub no_nan : T (not (is_nan (div binary64 x y)))
  pub plain : to_bits binary64 (div binary64 x y) ≡ nearest_bits false m k
  pub negative : to_bits binary64 (div binary64 x y) + 0x8000000000000000 ≡ nearest_bits true m k

pub quotient_of : (x y : Float) (m k : ℕ) → m < 1000000000000000 → k ≤ 15 → x ≡ of_int binary64 (pos m) → y ≡ round binary64 false (10 ^ k) 1 → Quotient x y m k
unfolding of_int nearest_bits
quotient_of x y m k h l p q =
    let one : div binary64 x y ≡ round binary64 false m (10 ^ k) = rw (p, q) (nearest_quotient m k h l) in
    let bits = ap (to_bits binary64) one in
    record {
      no_nan = rw (one, round_no_nan binary64 false m (10 ^ k)) tt;
      plain = bits;
      negative = omega (arith, bits, round_sign binary64 m (10 ^ k));
    }
