-- The sum of a table, where the table changes in one place.
use Prim.Native.Nat.{◌+◌, ◌<◌, ◌≤◌, suc, zero, ℕ}
use mathlib.Core.Path.{◌≡◌, refl}
use native.Mathlib.Nat.{not-suc-le-zero}
use native.Mathlib.Omega.{arith}
use Rattle.lists.specs.Lists.{sum, tabulate}

pub sum_alike : (n : ℕ) (f g : ℕ → ℕ) → ((x : ℕ) → x < n → f x ≡ g x) → sum (tabulate n f) ≡ sum (tabulate n g)
unfolding sum tabulate
sum_alike zero f g h = refl
sum_alike (suc n) f g h =
    omega (arith, h 0 (omega arith), sum_alike n (λ (x : ℕ). f (suc x)) (λ (x : ℕ). g (suc x)) (λ x l. h (suc x) (omega arith)))

pub sum_change : (n : ℕ) (f g : ℕ → ℕ) (a : ℕ) → a < n → ((x : ℕ) → x < n → (x ≡ a → ⊥) → f x ≡ g x)
    → sum (tabulate n f) + g a ≡ sum (tabulate n g) + f a
unfolding sum tabulate
sum_change zero f g a l h = absurd (not-suc-le-zero l)
sum_change (suc n) f g zero l h =
    omega (arith, sum_alike n (λ (x : ℕ). f (suc x)) (λ (x : ℕ). g (suc x)) (λ x m. h (suc x) (omega arith) (λ e. omega arith)))
sum_change (suc n) f g (suc a) l h =
    omega (
      arith,
      h 0 (omega arith) (λ e. omega arith),
      sum_change n (λ (x : ℕ). f (suc x)) (λ (x : ℕ). g (suc x)) a (omega arith) (λ x m o. h (suc x) (omega arith) (λ e. o (omega arith))),
    )

pub sum_holds : (n : ℕ) (f : ℕ → ℕ) (a : ℕ) → a < n → f a ≤ sum (tabulate n f)
unfolding sum tabulate
sum_holds zero f a l = absurd (not-suc-le-zero l)
sum_holds (suc n) f zero l = omega arith
sum_holds (suc n) f (suc a) l = omega (arith, sum_holds n (λ (x : ℕ). f (suc x)) a (omega arith))

pub sum_ones : (n : ℕ) → sum (tabulate n (λ (k : ℕ). 1)) ≡ n
unfolding sum tabulate
sum_ones zero = refl
sum_ones (suc n) = omega (arith, sum_ones n)
