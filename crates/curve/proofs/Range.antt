-- The range of a span's ends, ± 1,000,000, over a denominator 2 ^ 1074 · M. A sum of two values of that size is finite and within 2 ^ -33 of the exact one.
use Prim.Native.Nat.{ℕ, ◌*◌, ◌+◌, ◌/◌, ◌<◌, ◌^◌, ◌≤◌}
use native.Mathlib.Nat.{add-mul, mul-le-mul_right, mul-lt-mul_of_pos_right, mul-pos}
use native.Mathlib.Omega.{arith}
use mathlib.Core.Bool.{Bool, ◌&&◌, false, true, true≢false}
use mathlib.Core.Path.{◌∙◌, ◌≡◌, refl, sym}
use borrow.Author.Tests.{not-true}
use lib.Dec.{T, lit<, lit≤}
use lib.Ieee.{Float, add, binary64, down, fin, inf, le, low, lt, nan, neg, of_bits, up}
use lib.Ieee.Exact.{HasValue}
use lib.Ieee.Scale.{finite}
use lib.Pow.{pow_pos}
use Rattle.curve.proofs.Order.{le_is, not_less}
use Rattle.curve.proofs.Sums.{Near, sum_near, sum_value}
use Rattle.curve.proofs.Units.{Value, left_of, right_of, value_times}
use Rattle.curve.specs.Curves.{tolerance}
use Rattle.edge.specs.Edges.{in_range, million}

pub and_parts : (a b : Bool) → (a && b) ≡ true → (a ≡ true) × (b ≡ true)
and_parts true b h = (refl, h)
and_parts false b h = absurd (true≢false (sym h))

-- ---- a value in range
pub record Ranged (x : Float) : Type 0 where
  pub fine : T (finite x)
  pub low : lt x (neg million) ≡ false
  pub high : lt million x ≡ false

range_finite : (x : Float) → in_range x ≡ true → T (finite x)
unfolding in_range le neg of_bits
range_finite nan h = absurd (true≢false (sym h))
range_finite (inf true) h = absurd (true≢false (sym h))
range_finite (inf false) h = absurd (true≢false (sym h))
range_finite (fin s m e) h = tt

ends_fine : T (finite million) × T (finite (neg million))
unfolding of_bits neg
ends_fine = (tt, tt)

pub ranged : (x : Float) → in_range x ≡ true → Ranged x
unfolding in_range
ranged x h =
    let f = range_finite x h in
    let p = and_parts (le (neg million) x) (le x million) h in
    record {
      fine = f;
      low = not-true _ (sym (le_is (neg million) x ends_fine.1 f) ∙ p.0);
      high = not-true _ (sym (le_is x million f ends_fine.0) ∙ p.1);
    }

pub in_range_lem : (x : Float) → Ranged x → in_range x ≡ true
unfolding in_range
in_range_lem x r = rw (le_is (neg million) x ends_fine.1 r.fine, le_is x million r.fine ends_fine.0, r.low, r.high) refl

-- ---- the constants over 2 ^ 1074
pub million_is : HasValue million false (1000000 * 2 ^ 1074) (2 ^ low binary64) × HasValue (neg million) true (1000000 * 2 ^ 1074) (2 ^ low binary64)
unfolding of_bits neg
million_is = ((refl, refl), (refl, refl))

-- how many parts of 2 ^ -1074 a value has
abbrev pub parts_of : Float → ℕ
parts_of nan = 0
parts_of (inf s) = 0
parts_of (fin s m e) = m * up e * 2 ^ 1074 / down e

abbrev pub tolerated : ℕ
tolerated = parts_of tolerance

pub tolerance_is : HasValue tolerance false tolerated (2 ^ low binary64) × HasValue (neg tolerance) true tolerated (2 ^ low binary64)
unfolding of_bits neg
tolerance_is = ((refl, refl), (refl, refl))

module _ (M : ℕ) (P : 0 < M) where
  abbrev pub L : ℕ
  L = 2 ^ low binary64 * M

  pub positive : 0 < L
  positive = mul-pos (pow_pos (low binary64)) P

  -- a magnitude of at most 1,000,000
  abbrev pub most : ℕ
  most = 1000000 * 2 ^ 1074 * M

  abbrev pub million_value : Value L million
  million_value = record { sign = false; size = most; is = value_times million false (1000000 * 2 ^ 1074) (2 ^ low binary64) M million_is.0 }

  abbrev pub minus_million : Value L (neg million)
  minus_million = record { sign = true; size = most; is = value_times (neg million) true (1000000 * 2 ^ 1074) (2 ^ low binary64) M million_is.1 }

  abbrev pub tolerance_value : Value L tolerance
  tolerance_value = record { sign = false; size = tolerated * M; is = value_times tolerance false tolerated (2 ^ low binary64) M tolerance_is.0 }

  abbrev pub minus_tolerance : Value L (neg tolerance)
  minus_tolerance = record { sign = true; size = tolerated * M; is = value_times (neg tolerance) true tolerated (2 ^ low binary64) M tolerance_is.1 }

  -- the tolerance is wider than the error of a rounded sum: 2 ^ -33 is 2 ^ 1041 parts of 2 ^ -1074
  pub tolerance_wide : 2 ^ 1041 * M < tolerated * M
  unfolding of_bits
  tolerance_wide = mul-lt-mul_of_pos_right (lit< tt) P

  tolerance_small : tolerated * M ≤ most
  unfolding of_bits
  tolerance_small = mul-le-mul_right M (lit≤ tt)

  ranged_small : {x : Float} (v : Value L x) → Ranged x → v.size ≤ most
  ranged_small v r = go v.sign v.size most (not_less L positive v minus_million r.low) (not_less L positive million_value v r.high)
    where
      go : (s : Bool) (a m : ℕ) → 0 + left_of s a ≤ right_of s a + m → right_of s a + 0 ≤ m + left_of s a → a ≤ m
      go true a m h k = omega arith
      go false a m h k = omega arith

  -- a value in range and one as small as the tolerance, added
  module _ {x y : Float} (v : Value L x) (w : Value L y) (r : Ranged x) (small : w.size ≡ tolerated * M) where
    below : v.size + w.size < 2 ^ 1095 * M
    below =
        let m = 1000000 * 2 ^ 1074 in
        let both : (m + m) * M ≡ most + most = add-mul m m M in
        let less : (m + m) * M < 2 ^ 1095 * M = mul-lt-mul_of_pos_right (lit< tt) P in
        go v.size w.size (tolerated * M) most ((m + m) * M) (2 ^ 1095 * M) (ranged_small v r) small tolerance_small both less
      where
        go : (a b t m s u : ℕ) → a ≤ m → b ≡ t → t ≤ m → s ≡ m + m → s < u → a + b < u
        go a b t m s u h i j k l = omega arith

    pub added : Value L (add binary64 x y)
    added = sum_value binary64 M P x y v w 1042 (2 ^ 1041) below (lit≤ tt) (lit≤ tt)

    pub added_near : Near L v w added (2 ^ 1041 * M)
    unfolding added
    added_near = sum_near binary64 M P x y v w 1042 (2 ^ 1041) below (lit≤ tt) (lit≤ tt)
