-- The least of n numbers and 3.
use Prim.Native.Nat.{◌+◌, ◌<◌, ◌≤◌, min, suc, zero, ℕ}
use mathlib.Core.Bool.{false, true}
use mathlib.Core.Logic.{⊎_elim}
use mathlib.Core.Path.{◌≡◌, refl}
use native.Mathlib.Nat.{add-zero}
use native.Mathlib.Omega.{arith}
use lib.Dec.{eqb}
use borrow.Author.Tests.{eqb-false, eqb-true}
use Rattle.condition.specs.Tallies.{least}
use Rattle.lists.proofs.Laws.{cases}

module _ (f : ℕ → ℕ) where
  pub least_top : (n : ℕ) → least n f ≤ 3
  unfolding least
  least_top zero = omega arith
  least_top (suc n) = omega (arith, least_top n)

  pub least_le : (n k : ℕ) → k < n → least n f ≤ f k
  unfolding least
  least_le zero k l = absurd (omega arith)
  least_le (suc n) k l =
      ⊎_elim
      (λ (r : eqb k n ≡ true). rw (eqb-true k n r) (omega arith))
      (λ (r : eqb k n ≡ false). omega (arith, least_le n k (omega (arith, eqb-false k n r))))
      (cases (eqb k n))

  pub least_ge : (m n : ℕ) → m ≤ 3 → ((k : ℕ) → k < n → m ≤ f k) → m ≤ least n f
  unfolding least
  least_ge m zero b h = b
  least_ge m (suc n) b h = omega (arith, h n (omega arith), least_ge m n b (λ k l. h k (omega arith)))

-- one of the numbers lowered to v
pub least_lower : (f g : ℕ → ℕ) (n i v : ℕ) → i < n → g i ≡ min (f i) v → ((k : ℕ) → k < n → (k ≡ i → ⊥) → g k ≡ f k) → least n g ≡ min (least n f) v
least_lower f g n i v l here other =
    omega (
      arith,
      least_ge g (min (least n f) v) n (omega (arith, least_top f n)) reach,
      least_ge f (least n g) n (least_top g n) below,
      least_le g n i l,
      here,
    )
  where
    reach : (k : ℕ) → k < n → min (least n f) v ≤ g k
    reach k m =
        ⊎_elim
        (λ (r : eqb k i ≡ true). rw (eqb-true k i r) (omega (arith, here, least_le f n i l)))
        (λ (r : eqb k i ≡ false). omega (arith, other k m (eqb-false k i r), least_le f n k m))
        (cases (eqb k i))

    below : (k : ℕ) → k < n → least n g ≤ f k
    below k m =
        ⊎_elim
        (λ (r : eqb k i ≡ true). rw (eqb-true k i r) (omega (arith, here, least_le g n i l)))
        (λ (r : eqb k i ≡ false). omega (arith, other k m (eqb-false k i r), least_le g n k m))
        (cases (eqb k i))

pub least_next : (f : ℕ → ℕ) (e worst made r : ℕ) → worst ≡ least e f → made ≡ f e → r ≡ min worst made → r ≡ least (e + 1) f
unfolding least
least_next f e worst made r h k j = let n : e + 1 ≡ suc e = omega arith in rw n (omega (arith, h, k, j))

-- those of m and n more
pub least_add : (f : ℕ → ℕ) (m n : ℕ) → least (m + n) f ≡ min (least m f) (least n (λ (k : ℕ). f (m + k)))
unfolding least
least_add f m zero = rw (add-zero m) (omega (arith, least_top f m))
least_add f m (suc n) = let e : m + suc n ≡ suc (m + n) = omega arith in rw e (omega (arith, least_add f m n))

pub least_alike : (f g : ℕ → ℕ) (n : ℕ) → ((k : ℕ) → k < n → f k ≡ g k) → least n f ≡ least n g
unfolding least
least_alike f g zero h = refl
least_alike f g (suc n) h = omega (arith, h n (omega arith), least_alike f g n (λ k l. h k (omega arith)))
