-- The sum of two finite values is one rounding of their exact sum.
use Prim.Native.Nat.{ℕ, ◌*◌, ◌+◌, ◌-◌, ◌<◌, ◌^◌, ◌≤◌}
use native.Mathlib.Nat.{add-mul, lt_of_le_of_lt, lt_of_mul-lt-mul_right, mul_assoc, mul_comm, mul-lt-mul_of_pos_right, mul-pos, mul_right_comm, mul-sub}
use native.Mathlib.Omega.{arith}
use mathlib.Core.Bool.{Bool, beq, ◌&&◌, cond, false, not, true}
use mathlib.Core.Path.{◌∙◌, ◌≡◌, ap, refl, subst, sym}
use lib.Dec.{T, lt→ltb, ltb, ltb→lt, nltb→le}
use lib.Ieee.{Float, Format, add, down, fin, inf, low, nan, prec, round, sum, up}
use lib.Ieee.Exact.{HasValue}
use lib.Ieee.Fits.{down_pos}
use lib.Ieee.Scale.{overflow, round_same}
use lib.Pow.{pow_pos}
use Rattle.curve.proofs.Rounding.{near, round_value, rounded}
use Rattle.curve.proofs.Units.{Value, left, left_of, right, right_of}

-- ---- the exact sum of two signed numbers
abbrev sum_sign : Bool → ℕ → Bool → ℕ → Bool
sum_sign s a t b = cond (beq s t) s (cond (ltb a b) t (s && ltb b a))

abbrev sum_size : Bool → ℕ → Bool → ℕ → ℕ
sum_size s a t b = cond (beq s t) (a + b) (a - b + (b - a))

sum_is : (f : Format) (s : Bool) (a : ℕ) (t : Bool) (b c : ℕ) → sum f s a t b c ≡ round f (sum_sign s a t b) (sum_size s a t b) c
unfolding sum
sum_is f s a t b c = go (beq s t) (ltb a b) (ltb→lt a b) (nltb→le a b)
  where
    go : (same less : Bool) → (T less → a < b) → (T (not less) → b ≤ a)
        → cond same (round f s (a + b) c) (cond less (round f t (b - a) c) (round f (s && ltb b a) (a - b) c)) ≡ round f (cond same s (cond less t (s && ltb b a))) (cond same (a + b) (a - b + (b - a))) c
    go true less p q = refl
    go false true p q = let h = p tt in ap (λ (z : ℕ). round f t z c) (omega arith)
    go false false p q = let h = q tt in ap (λ (z : ℕ). round f (s && ltb b a) z c) (omega arith)

sum_exact : (s : Bool) (a : ℕ) (t : Bool) (b : ℕ)
    → right_of (sum_sign s a t b) (sum_size s a t b) + left_of s a + left_of t b ≡ left_of (sum_sign s a t b) (sum_size s a t b) + right_of s a + right_of t b
sum_exact true a true b = omega arith
sum_exact false a false b = omega arith
sum_exact true a false b = go (ltb a b) (ltb b a) (ltb→lt a b) (nltb→le a b) (ltb→lt b a) (nltb→le b a)
  where
    go : (l g : Bool) → (T l → a < b) → (T (not l) → b ≤ a) → (T g → b < a) → (T (not g) → a ≤ b)
        → right_of (cond l false g) (a - b + (b - a)) + a + 0 ≡ left_of (cond l false g) (a - b + (b - a)) + 0 + b
    go true g p q r s = let h = p tt in omega arith
    go false true p q r s = let h = r tt in omega arith
    go false false p q r s = let h = q tt in let k = s tt in omega arith
sum_exact false a true b = go (ltb a b) (ltb→lt a b) (nltb→le a b)
  where
    go : (l : Bool) → (T l → a < b) → (T (not l) → b ≤ a) → right_of (cond l true false) (a - b + (b - a)) + 0 + b ≡ left_of (cond l true false) (a - b + (b - a)) + a + 0
    go true p q = let h = p tt in omega arith
    go false p q = let h = q tt in omega arith

-- ---- the same in other units: a / c is x / l, b / c is y / l
pub same_test : (p q : Bool) → (T p → T q) → (T q → T p) → p ≡ q
same_test true true h k = refl
same_test true false h k = absurd (h tt)
same_test false true h k = absurd (k tt)
same_test false false h k = refl

pub ltb_scale : (a b c x y l : ℕ) → 0 < c → 0 < l → a * l ≡ x * c → b * l ≡ y * c → ltb a b ≡ ltb x y
ltb_scale a b c x y l C L p q =
    same_test (ltb a b) (ltb x y)
    (λ h. lt→ltb x y (lt_of_mul-lt-mul_right c (rw (← p, ← q) (mul-lt-mul_of_pos_right (ltb→lt a b h) L))))
    (λ h. lt→ltb a b (lt_of_mul-lt-mul_right l (rw (p, q) (mul-lt-mul_of_pos_right (ltb→lt x y h) C))))

minus_mul : (a b c : ℕ) → (a - b) * c ≡ a * c - b * c
minus_mul a b c = rw (mul_comm (a - b) c, mul-sub c a b, mul_comm c a, mul_comm c b) refl

size_scale : (s : Bool) (a : ℕ) (t : Bool) (b c x y l : ℕ) → a * l ≡ x * c → b * l ≡ y * c → sum_size s a t b * l ≡ sum_size s x t y * c
size_scale s a t b c x y l p q = go (beq s t)
  where
    go : (same : Bool) → cond same (a + b) (a - b + (b - a)) * l ≡ cond same (x + y) (x - y + (y - x)) * c
    go true = rw (add-mul a b l, add-mul x y c, p, q) refl
    go false = rw (add-mul (a - b) (b - a) l, add-mul (x - y) (y - x) c, minus_mul a b l, minus_mul b a l, minus_mul x y c, minus_mul y x c, p, q) refl

sum_scale : (f : Format) (s : Bool) (a : ℕ) (t : Bool) (b c x y l : ℕ) → 0 < c → 0 < l → a * l ≡ x * c → b * l ≡ y * c → sum f s a t b c ≡ round f (sum_sign s x t y) (sum_size s x t y) l
sum_scale f s a t b c x y l C L p q =
    sum_is f s a t b c
    ∙ ap (λ (z : Bool). round f (cond (beq s t) s (cond z t (s && ltb b a))) (sum_size s a t b) c) (ltb_scale a b c x y l C L p q)
    ∙ ap (λ (z : Bool). round f (cond (beq s t) s (cond (ltb x y) t (s && z))) (sum_size s a t b) c) (ltb_scale b a c y x l C L q p)
    ∙ round_same f (sum_sign s x t y) (sum_size s a t b) c (sum_size s x t y) l C L (size_scale s a t b c x y l p q)

-- a fraction over a common denominator
pub over : (L a d c n : ℕ) → a * L ≡ n * d → a * c * L ≡ n * (d * c)
over L a d c n h = mul_right_comm a c L ∙ ap (λ (z : ℕ). z * c) h ∙ mul_assoc n d c

-- ---- r is one rounding of x + y, which is `size` parts of 1 / L with the sign `sign`
record OneRounding (f : Format) (L : ℕ) {x y : Float} (v : Value L x) (w : Value L y) (r : Float) : Type 0 where
  sign : Bool
  size : ℕ
  is : r ≡ round f sign size L
  exact : right_of sign size + left v + left w ≡ left_of sign size + right v + right w
  few : size ≤ v.size + w.size

size_few : (s : Bool) (a : ℕ) (t : Bool) (b : ℕ) → sum_size s a t b ≤ a + b
size_few s a t b = go (beq s t)
  where
    go : (same : Bool) → cond same (a + b) (a - b + (b - a)) ≤ a + b
    go true = omega arith
    go false = omega arith

add_rounds : (f : Format) (L : ℕ) → 0 < L → (x y : Float) (v : Value L x) (w : Value L y) → OneRounding f L v w (add f x y)
unfolding add
add_rounds f L P nan y v w = absurd v.is
add_rounds f L P (inf s) y v w = absurd v.is
add_rounds f L P (fin s m e) nan v w = absurd w.is
add_rounds f L P (fin s m e) (inf t) v w = absurd w.is
add_rounds f L P (fin s m e) (fin t n d) v w =
    let a = m * up e * down d in
    let b = n * up d * down e in
    let c = down e * down d in
    record {
      sign = sum_sign v.sign v.size w.sign w.size;
      size = sum_size v.sign v.size w.sign w.size;
      is = (λ i. sum f (v.is.0 i) a (w.is.0 i) b c)
          ∙ sum_scale f v.sign a w.sign b c v.size w.size L (mul-pos (down_pos e) (down_pos d)) P (over L (m * up e) (down e) (down d) v.size v.is.1)
          (over L (n * up d) (down d) (down e) w.size w.is.1 ∙ ap (λ (z : ℕ). w.size * z) (mul_comm (down d) (down e)));
      exact = sum_exact v.sign v.size w.sign w.size;
      few = size_few v.sign v.size w.sign w.size;
    }

-- ---- r is within E parts of x + y
pub record Near (L : ℕ) {x y r : Float} (v : Value L x) (w : Value L y) (z : Value L r) (E : ℕ) : Type 0 where
  pub over : right z + left v + left w ≤ left z + right v + right w + E
  pub under : left z + right v + right w ≤ right z + left v + left w + E

-- over 2 ^ low · M: a sum of magnitudes below 2 ^ (prec + k) · M is finite, and within E · M, where E is 2 ^ k / 2 or more
module _ (f : Format) (M : ℕ) (P : 0 < M) (x y : Float) (v : Value (2 ^ low f * M) x) (w : Value (2 ^ low f * M) y) (k E : ℕ)
    (small : v.size + w.size < 2 ^ (prec f + k) * M) (wide : 2 ^ k ≤ 2 * E) (room : 2 ^ (prec f + k) + E ≤ overflow f) where
  abbrev L : ℕ
  L = 2 ^ low f * M

  one : OneRounding f L v w (add f x y)
  one = add_rounds f L (mul-pos (pow_pos (low f)) P) x y v w

  below : one.size < 2 ^ (prec f + k) * M
  below = lt_of_le_of_lt one.few small

  pub sum_value : Value L (add f x y)
  sum_value = record {
    sign = one.sign;
    size = rounded f one.sign one.size M k P;
    is = subst (λ (r : Float). HasValue r one.sign (rounded f one.sign one.size M k P) L) (sym one.is) (round_value f one.sign one.size M k P below E wide room);
  }

  pub sum_near : Near L v w sum_value (E * M)
  unfolding sum_value one
  sum_near =
      let h = near f one.sign one.size M k P below E wide in
      let z = go one.sign (rounded f one.sign one.size M k P) one.size (left v) (left w) (right v) (right w) (E * M) h.0 h.1 one.exact in
      record { over = z.0; under = z.1 }
    where
      go : (s : Bool) (m n lx ly rx ry E : ℕ) → m * 2 ≤ n * 2 + 2 * E → n * 2 ≤ m * 2 + 2 * E → right_of s n + lx + ly ≡ left_of s n + rx + ry
          → (right_of s m + lx + ly ≤ left_of s m + rx + ry + E) × (left_of s m + rx + ry ≤ right_of s m + lx + ly + E)
      go true m n lx ly rx ry E a b x = (omega arith, omega arith)
      go false m n lx ly rx ry E a b x = (omega arith, omega arith)
