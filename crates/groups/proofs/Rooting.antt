-- Members of one root: turn by turn, and that they are those of one group.
use Prim.Native.Nat.{◌+◌, ◌<◌, ◌≤◌, ℕ}
use mathlib.Core.Bool.{Bool, false, true}
use mathlib.Core.List.{List, Memᴰ, [], ◌∷◌}
use mathlib.Core.Path.{◌≡◌, refl, sym}
use native.Mathlib.Numerals.{add-one}
use native.Mathlib.Omega.{arith}
use lib.ListN.{drop, drop_of_length-le, get_or, length}
use lib.Seq.{drop-cons}
use borrow.Author.Tests.{eq-eqb, ne_eqb}
use Rattle.groups.proofs.Laws.{same_is}
use Rattle.groups.proofs.Meaning.{of_each}
use Rattle.groups.specs.Forest.{Grouped, has_root, one_root, root_of}
use Rattle.groups.specs.Groups.{Link, every, one_group, same_group}

pub one_root_none : (ps ms : List ℕ) → length ms ≡ 0 → one_root ps ms ≡ true
unfolding one_root
one_root_none ps [] h = refl
one_root_none ps (m ∷ ms) h = absurd (omega arith)

pub one_root_start : (ps ms : List ℕ) (r : ℕ) → 0 < length ms → r ≡ root_of ps (get_or ms 0 0) → one_root ps ms ≡ every (has_root ps r) (drop 1 ms)
unfolding one_root
one_root_start ps [] r h e = absurd (omega arith)
one_root_start ps (m ∷ ms) r h e = rw e

module _ (ps ms : List ℕ) (r i : ℕ) where
  pub rooting_stop : i < length ms → (root_of ps (get_or ms i 0) ≡ r → ⊥) → every (has_root ps r) (drop i ms) ≡ false
  unfolding every
  rooting_stop h ne = rw (drop-cons {A = ℕ} ms i 0 h, ne_eqb r (root_of ps (get_or ms i 0)) (λ e. ne (sym e)))

  pub rooting_next : i < length ms → root_of ps (get_or ms i 0) ≡ r → every (has_root ps r) (drop i ms) ≡ every (has_root ps r) (drop (i + 1) ms)
  unfolding every
  rooting_next h e = rw (add-one, drop-cons {A = ℕ} ms i 0 h, eq-eqb r (root_of ps (get_or ms i 0)) (sym e))

  pub rooting_end : length ms ≤ i → every (has_root ps r) (drop i ms) ≡ true
  unfolding every
  rooting_end h = rw (drop_of_length-le ms h)

every_alike : (q r : ℕ → Bool) (xs : List ℕ) → ((x : ℕ) → Memᴰ x xs → q x ≡ r x) → every q xs ≡ every r xs
unfolding every
every_alike q r [] h = refl
every_alike q r (x ∷ xs) h = rw (h x (Memᴰ.head refl), every_alike q r xs (λ y m. h y (Memᴰ.tail m)))

-- the members of the list, all below n, have one root exactly if they are in one group
pub one_root_is : (n : ℕ) (L : List Link) (ps ss : List ℕ) → Grouped n L ps ss → (ms : List ℕ) → ((k : ℕ) → k < length ms → get_or ms k 0 < n)
    → one_root ps ms ≡ one_group n L ms
unfolding one_root one_group
one_root_is n L ps ss g [] h = refl
one_root_is n L ps ss g (m ∷ ms) h =
    every_alike (has_root ps (root_of ps m)) (same_group n L m) ms
    (λ x o. same_is n L ps ss g m x (h 0 (omega arith)) (of_each (λ (y : ℕ). y < n) 0 (m ∷ ms) h x (Memᴰ.tail o)))
