-- A cut that a span does not refuse makes two spans.
use Rattle.std.specs.Prelude.{None, Option, Some}
use Prim.Native.Nat.{ℕ, ◌*◌, ◌+◌, ◌<◌, ◌^◌, ◌≤◌}
use native.Mathlib.Nat.{mul_comm, mul_left_comm, mul-pos}
use native.Mathlib.Omega.{arith}
use mathlib.Core.Bool.{Bool, ◌&&◌, ◌||◌, false, not, true, true≢false}
use mathlib.Core.Logic.{⊎_elim}
use mathlib.Core.Path.{◌≡◌, refl}
use lib.Dec.{T}
use lib.Ieee.{Float, add, binary64, down, fin, inf, low, lt, nan, neg, sub}
use lib.Ieee.Fits.{down_pos}
use Rattle.curve.proofs.Order.{make_less, not_above, not_below, not_less}
use Rattle.curve.proofs.Range.{Ranged, added, added_near, and_parts, in_range_lem, million_value, minus_million, minus_tolerance, positive, ranged, tolerance_value, tolerance_wide, tolerated}
use Rattle.curve.proofs.Units.{Value, left, right, value_over}
use Rattle.curve.specs.Curves.{back_half, cut_curve, finite, front_half, refuses, tolerance}
use Rattle.curve.specs.declared.Parameter.{Parameter}
use Rattle.curve.specs.declared.Parameter.TheVariants.{At, Nowhere}
use Rattle.edge.specs.Edges.{in_range, is_span}
use Rattle.edge.specs.declared.Curve.{Curve}
use Rattle.lists.proofs.Laws.{cases}

-- ---- three finite values over one denominator
record Three (x y z : Float) : Type 0 where
  M : ℕ
  P : 0 < M
  first : Value (2 ^ low binary64 * M) x
  second : Value (2 ^ low binary64 * M) y
  third : Value (2 ^ low binary64 * M) z

three : (x y z : Float) → T (finite x) → T (finite y) → T (finite z) → Three x y z
three nan y z p q r = absurd p
three (inf s) y z p q r = absurd p
three (fin s m e) nan z p q r = absurd q
three (fin s m e) (inf t) z p q r = absurd q
three (fin s m e) (fin t n d) nan p q r = absurd r
three (fin s m e) (fin t n d) (inf u) p q r = absurd r
three (fin s m e) (fin t n d) (fin u o g) p q r =
    let l = 2 ^ low binary64 in
    let M = down e * (down d * down g) in
    record {
      M = M;
      P = mul-pos (down_pos e) (mul-pos (down_pos d) (down_pos g));
      first = record { sign = s; size = _; is = value_over s m e (l * (down d * down g)) (l * M) (simp (mul_comm, mul_left_comm)) };
      second = record { sign = t; size = _; is = value_over t n d (l * (down e * down g)) (l * M) (simp (mul_comm, mul_left_comm)) };
      third = record { sign = u; size = _; is = value_over u o g (l * (down e * down d)) (l * M) (simp (mul_comm, mul_left_comm)) };
    }

module _ (M : ℕ) (P : 0 < M) where
  abbrev L : ℕ
  L = 2 ^ low binary64 * M

  -- ---- t not below t0 + tolerance is above t0
  above_start : {t0 t : Float} (v0 : Value L t0) (v : Value L t) → Ranged t0 → lt t (add binary64 t0 tolerance) ≡ false → lt t0 t ≡ true
  above_start v0 v r h =
      let d = tolerance_value M P in
      let s = added M P v0 d r refl in
      make_less L (positive M P) v0 v
      (go (right v0) (left v0) (right v) (left v) (right s) (left s) (tolerated * M) (2 ^ 1041 * M) (tolerance_wide M P) (not_less L (positive M P) v s h) (added_near M P v0 d r refl).under)
    where
      go : (r0 l0 r l rs ls rd E : ℕ) → E < rd → rs + l ≤ r + ls → ls + r0 + rd ≤ rs + l0 + 0 + E → r0 + l < r + l0
      go r0 l0 r l rs ls rd E b c d = omega arith

  -- ---- t not above t1 − tolerance is below t1
  below_end : {t t1 : Float} (v : Value L t) (v1 : Value L t1) → Ranged t1 → lt (add binary64 t1 (neg tolerance)) t ≡ false → lt t t1 ≡ true
  below_end v v1 r h =
      let d = minus_tolerance M P in
      let s = added M P v1 d r refl in
      make_less L (positive M P) v v1
      (go (right v1) (left v1) (right v) (left v) (right s) (left s) (tolerated * M) (2 ^ 1041 * M) (tolerance_wide M P) (not_less L (positive M P) s v h) (added_near M P v1 d r refl).over)
    where
      go : (r1 l1 r l rs ls ld E : ℕ) → E < ld → r + ls ≤ rs + l → rs + l1 + ld ≤ ls + r1 + 0 + E → r + l1 < r1 + l
      go r1 l1 r l rs ls ld E b c d = omega arith

-- ---- the theorem
not_refused : (a b c : Bool) → (not a || (b || c)) ≡ false → T a × (b ≡ false) × (c ≡ false)
not_refused true false false h = (tt, refl, refl)
not_refused true false true h = absurd (true≢false h)
not_refused true true c h = absurd (true≢false h)
not_refused false b c h = absurd (true≢false h)

span_of : (t0 t1 : Float) → Ranged t0 → Ranged t1 → lt t0 t1 ≡ true → is_span (record { t0 = t0; t1 = t1 }) ≡ true
unfolding is_span
span_of t0 t1 p q h = rw (in_range_lem t0 p, in_range_lem t1 q, h) refl

sub_is : (x y : Float) → sub binary64 x y ≡ add binary64 x (neg y)
unfolding sub
sub_is x y = refl

pub halves_span : (k : Curve) (t : Float) → is_span k ≡ true → refuses k t ≡ false → (is_span (front_half k t) && is_span (back_half k t)) ≡ true
unfolding is_span refuses
halves_span k t span ok =
    let ends = and_parts (in_range k.t0) (in_range k.t1) (and_parts (in_range k.t0 && in_range k.t1) (lt k.t0 k.t1) span).0 in
    let r0 = ranged k.t0 ends.0 in
    let r1 = ranged k.t1 ends.1 in
    let o = not_refused (finite t) (lt t (add binary64 k.t0 tolerance)) (lt (sub binary64 k.t1 tolerance) t) ok in
    let n = three k.t0 k.t1 t r0.fine r1.fine o.0 in
    let l = 2 ^ low binary64 * n.M in
    let p = positive n.M n.P in
    let a = above_start n.M n.P n.first n.third r0 o.1 in
    let b = below_end n.M n.P n.third n.second r1 (rw (sub_is k.t1 tolerance) at o.2) in
    let r : Ranged t = record {
      fine = o.0;
      low = not_below l p n.first n.third (minus_million n.M n.P) r0.low a;
      high = not_above l p n.third n.second (million_value n.M n.P) b r1.high;
    } in
    rw (span_of k.t0 t r0 r a, span_of t k.t1 r r1 b) refl

-- each half is a span: neither is empty
abbrev pub are_spans : Option (Curve × Curve) → Bool
are_spans None = true
are_spans (Some (k, l)) = is_span k && is_span l

pub cut_spans : (k : Curve) (at : Parameter) → is_span k ≡ true → are_spans (cut_curve k at) ≡ true
cut_spans k Nowhere span = refl
cut_spans k (At t) span =
    ⊎_elim (λ (e : refuses k t ≡ true). rw e) (λ (e : refuses k t ≡ false). rw e (halves_span k t span e)) (cases (refuses k t))
