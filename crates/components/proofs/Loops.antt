-- The members of the pairs, and the loop that writes the roots.
use Prim.Native.Nat.{◌+◌, ◌-◌, ◌<◌, ◌≤◌, suc, zero, ℕ}
use mathlib.Core.List.{List, [], ◌++◌, ◌∷◌, append_assoc, append-nil}
use mathlib.Core.Path.{◌∙◌, ◌≡◌, ap, refl, sym}
use native.Mathlib.Nat.{le_of_suc-le-suc, not-suc-le-zero}
use native.Mathlib.Omega.{arith}
use lib.ListN.{drop, get_or, length, length-append, length-replicate, replicate, set, take}
use lib.Seq.{length-sets, sets, take_all}
use Rattle.components.specs.Pairs.{owners, roots_of}
use Rattle.groups.specs.Forest.{root_of}
use Rattle.lists.proofs.Flat.{get_d_tabulate}
use Rattle.lists.proofs.Laws.{length_tabulate}
use Rattle.lists.proofs.Sets.{sets_next}
use Rattle.lists.specs.Lists.{sum}

-- ---- a list stored from `at` on: i of its elements are
pub record Putting (xs l : List ℕ) (at : ℕ) (out : List ℕ) (i : ℕ) : Type 0 where
  pub room : at + length xs ≤ length l
  pub low : i ≤ length xs
  pub is : out ≡ sets l at (take i xs)

pub putting_start : (xs l : List ℕ) (at : ℕ) → at + length xs ≤ length l → Putting xs l at l 0
putting_start xs l at h = record { room = h; low = omega arith; is = refl }

module _ (xs l : List ℕ) (at : ℕ) (out : List ℕ) (i : ℕ) (s : Putting xs l at out i) where
  pub putting_long : length out ≡ length l
  putting_long = ap length s.is ∙ length-sets l at (take i xs)

  pub putting_room : i < length xs → at + i < length out
  putting_room h = omega (arith, putting_long, s.room)

  pub putting_next : i < length xs → (p v : ℕ) → p ≡ at + i → v ≡ get_or xs i 0 → Putting xs l at (set out p v) (i + 1)
  putting_next h p v o e = record { room = s.room; low = omega arith; is = rw (o, e, s.is) (sets_next l at xs i 0 h) }

  pub putting_all : length xs ≤ i → out ≡ sets l at xs
  putting_all h = s.is ∙ ap (sets l at) (take_all i xs h)

-- ---- the members of the pairs
pub length_owners : (b : ℕ) (ns : List ℕ) → length (owners b ns) ≡ sum ns
unfolding owners sum
length_owners b [] = refl
length_owners b (n ∷ ns) = omega (arith, length-append (replicate n b) (owners (suc b) ns), length-replicate {A = ℕ} n b, length_owners (suc b) ns)

pub owners_next : (b : ℕ) (ns : List ℕ) (k : ℕ) → k < length ns → owners b (take (suc k) ns) ≡ owners b (take k ns) ++ replicate (get_or ns k 0) (b + k)
unfolding owners
owners_next b [] k h = absurd (not-suc-le-zero h)
owners_next b (n ∷ ns) zero h = let z : b + 0 ≡ b = omega arith in rw z (append-nil (replicate n b))
owners_next b (n ∷ ns) (suc k) h =
    let z : b + suc k ≡ suc b + k = omega arith in
    rw z (ap (λ (r : List ℕ). replicate n b ++ r) (owners_next (suc b) ns k (le_of_suc-le-suc h))
    ∙ sym (append_assoc (replicate n b) (owners (suc b) (take k ns)) (replicate (get_or ns k 0) (suc b + k))))

-- ---- the roots
module _ (parents : List ℕ) (first n : ℕ) where
  pub roots_room : (out : List ℕ) → n ≤ length out → 0 + length (roots_of parents first n) ≤ length out
  roots_room out h = omega (arith, length_tabulate n (λ (k : ℕ). root_of parents (first + k)))

  pub root_at : (k : ℕ) → k < n → (v : ℕ) → v ≡ root_of parents (first + k) → v ≡ get_or (roots_of parents first n) k 0
  root_at k h v e = e ∙ sym (get_d_tabulate n (λ (j : ℕ). root_of parents (first + j)) k 0 h)

pub roots_long : (parents : List ℕ) (first n : ℕ) → length (roots_of parents first n) ≡ n
roots_long parents first n = length_tabulate n (λ (k : ℕ). root_of parents (first + k))

-- ---- the first part of a column, as the code takes it
pub first_part : (m : ℕ) (xs : List ℕ) → take (m - 0) (drop 0 xs) ≡ take m xs
first_part m xs = let e : m - 0 ≡ m = omega arith in rw e
