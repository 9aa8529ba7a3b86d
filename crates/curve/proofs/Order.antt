-- The order of finite values is the order of their sizes over a common denominator.
use Prim.Native.Nat.{Ordering, compare, ℕ, suc, zero, ◌*◌, ◌+◌, ◌<◌, ◌≤◌}
use native.Mathlib.Nat.{add_comm, add-mul, add-zero, le_of_eq, le_of_lt, mul_comm, mul-pos, zero-add, zero-mul}
use native.Mathlib.Omega.{arith}
use mathlib.Core.Bool.{Bool, ◌&&◌, ◌||◌, and-false, false, not, true}
use mathlib.Core.Path.{◌∙◌, ◌≡◌, ap, refl, sym}
use borrow.Author.Tests.{eq-eqb, le-ltb, lt-ltb, ltb-false, ltb-true, ne_eqb}
use lib.Dec.{T, eqb, eqb-suc-zero, eqb-zero-suc, eqb→eq, ltb}
use lib.Ieee.{Float, below, down, fin, inf, le, level, lt, nan, up}
use lib.Ieee.Fits.{down_pos, eq→eqb}
use lib.Ieee.Scale.{finite}
use Rattle.curve.proofs.Rounding.{Compared, compared}
use Rattle.curve.proofs.Sums.{ltb_scale, over, same_test}
use Rattle.curve.proofs.Units.{Value, left, left_of, right, right_of}

-- ---- signed numbers
eqb_swap : (a b : ℕ) → eqb a b ≡ eqb b a
eqb_swap a b = same_test (eqb a b) (eqb b a) (λ h. eq→eqb (sym (eqb→eq a b h))) (λ h. eq→eqb (sym (eqb→eq b a h)))

below_is : (s : Bool) (a : ℕ) (t : Bool) (b : ℕ) → below s a t b ≡ ltb (right_of s a + left_of t b) (right_of t b + left_of s a)
below_is false a false b = rw (add-zero a, add-zero b) refl
below_is false a true b = sym (le-ltb (a + b) 0 (omega arith))
below_is true a false b = rw (add_comm a b) refl
below_is true a true b = rw (zero-add a, zero-add b) refl

less_or_same : (a b : ℕ) → (ltb a b || (eqb a b && true)) ≡ not (ltb b a)
less_or_same a b = go (compare a b) (compared a b)
  where
    go : (o : Ordering) → Compared o a b → (ltb a b || (eqb a b && true)) ≡ not (ltb b a)
    go Ordering.lt h = rw (lt-ltb a b h, le-ltb b a (le_of_lt h)) refl
    go Ordering.eq h = rw (le-ltb a b (le_of_eq (sym h)), eq-eqb a b h, le-ltb b a (le_of_eq h)) refl
    go Ordering.gt h = rw (le-ltb a b (le_of_lt h), ne_eqb a b (λ e. omega arith), lt-ltb b a h) refl

both_zero : (a b : ℕ) → (eqb a b && eqb a 0) ≡ not (ltb 0 (b + a))
both_zero zero zero = refl
both_zero zero (suc b) = rw (eqb-zero-suc b, lt-ltb 0 (suc b + 0) (omega arith)) refl
both_zero (suc a) b = rw (eqb-suc-zero a, and-false (eqb (suc a) b), lt-ltb 0 (b + suc a) (omega arith)) refl

less_or_zero : (a b : ℕ) → (ltb 0 (a + b) || (eqb a b && eqb a 0)) ≡ true
less_or_zero zero zero = refl
less_or_zero zero (suc b) = rw (lt-ltb 0 (0 + suc b) (omega arith)) refl
less_or_zero (suc a) b = rw (lt-ltb 0 (suc a + b) (omega arith)) refl

level_is : (s : Bool) (a : ℕ) (t : Bool) (b : ℕ) → (below s a t b || level s a t b) ≡ not (below t b s a)
level_is false a false b = less_or_same a b
level_is false a true b = both_zero a b
level_is true a false b = less_or_zero a b
level_is true a true b = ap (λ (z : Bool). ltb b a || (z && true)) (eqb_swap a b) ∙ less_or_same b a

right_scale : (s : Bool) (a x c l : ℕ) → a * l ≡ x * c → right_of s a * l ≡ right_of s x * c
right_scale true a x c l h = zero-mul l ∙ sym (zero-mul c)
right_scale false a x c l h = h

left_scale : (s : Bool) (a x c l : ℕ) → a * l ≡ x * c → left_of s a * l ≡ left_of s x * c
left_scale true a x c l h = h
left_scale false a x c l h = zero-mul l ∙ sym (zero-mul c)

-- ---- values
lt_is : (L : ℕ) → 0 < L → (x y : Float) (v : Value L x) (w : Value L y) → lt x y ≡ ltb (right v + left w) (right w + left v)
unfolding lt
lt_is L P nan y v w = absurd v.is
lt_is L P (inf s) y v w = absurd v.is
lt_is L P (fin s m e) nan v w = absurd w.is
lt_is L P (fin s m e) (inf t) v w = absurd w.is
lt_is L P (fin s m e) (fin t n d) v w =
    let i = m * up e * down d in
    let j = n * up d * down e in
    let c = down e * down d in
    let x = v.size in
    let y = w.size in
    let hx : i * L ≡ x * c = over L (m * up e) (down e) (down d) x v.is.1 in
    let hy : j * L ≡ y * c = over L (n * up d) (down d) (down e) y w.is.1 ∙ ap (λ (z : ℕ). y * z) (mul_comm (down d) (down e)) in
    let p = v.sign in
    let q = w.sign in
    (λ k. below (v.is.0 k) i (w.is.0 k) j)
    ∙ below_is p i q j
    ∙ ltb_scale (right_of p i + left_of q j) (right_of q j + left_of p i) c (right_of p x + left_of q y) (right_of q y + left_of p x) L (mul-pos (down_pos e) (down_pos d)) P
    (rw (add-mul (right_of p i) (left_of q j) L, add-mul (right_of p x) (left_of q y) c, right_scale p i x c L hx, left_scale q j y c L hy) refl)
    (rw (add-mul (right_of q j) (left_of p i) L, add-mul (right_of q y) (left_of p x) c, right_scale q j y c L hy, left_scale p i x c L hx) refl)

pub le_is : (x y : Float) → T (finite x) → T (finite y) → le x y ≡ not (lt y x)
unfolding le
le_is nan y p q = absurd p
le_is (inf s) y p q = absurd p
le_is (fin s m e) nan p q = absurd q
le_is (fin s m e) (inf t) p q = absurd q
le_is (fin s m e) (fin t n d) p q = level_is s (m * up e * down d) t (n * up d * down e)

-- ---- what a comparison says, and what makes it
module _ (L : ℕ) (P : 0 < L) where
  module _ {x y : Float} (v : Value L x) (w : Value L y) where
    pub less : lt x y ≡ true → right v + left w < right w + left v
    less h = ltb-true _ _ (sym (lt_is L P x y v w) ∙ h)

    pub not_less : lt x y ≡ false → right w + left v ≤ right v + left w
    not_less h = ltb-false _ _ (sym (lt_is L P x y v w) ∙ h)

    pub make_less : right v + left w < right w + left v → lt x y ≡ true
    make_less h = lt_is L P x y v w ∙ lt-ltb _ _ h

    pub make_not_less : right w + left v ≤ right v + left w → lt x y ≡ false
    make_not_less h = lt_is L P x y v w ∙ le-ltb _ _ h

  module _ {x y z : Float} (u : Value L x) (v : Value L y) (w : Value L z) where
    -- z ≤ x < y
    pub not_below : lt x z ≡ false → lt x y ≡ true → lt y z ≡ false
    not_below h k = make_not_less v w (go _ _ _ _ _ _ (not_less u w h) (less u v k))
      where
        go : (rx lx ry ly rz lz : ℕ) → rz + lx ≤ rx + lz → rx + ly < ry + lx → rz + ly ≤ ry + lz
        go rx lx ry ly rz lz a b = omega arith

    -- x < y ≤ z
    pub not_above : lt x y ≡ true → lt z y ≡ false → lt z x ≡ false
    not_above h k = make_not_less w u (go _ _ _ _ _ _ (less u v h) (not_less w v k))
      where
        go : (rx lx ry ly rz lz : ℕ) → rx + ly < ry + lx → ry + lz ≤ rz + ly → rx + lz ≤ rz + lx
        go rx lx ry ly rz lz a b = omega arith
