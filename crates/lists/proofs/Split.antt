-- Laws of a list cut into parts.
use Prim.Native.Nat.{◌+◌, ◌-◌, ◌<◌, ◌≤◌, suc, zero, ℕ}
use mathlib.Core.List.{List, [], ◌∷◌}
use mathlib.Core.Path.{◌∙◌, ◌≡◌, ap, refl, sym}
use native.Mathlib.Numerals.{add-one}
use native.Mathlib.Omega.{arith}
use lib.ListN.{drop, get_or, length, take}
use lib.Seq.{drop-drop, take-nil, take-take}
use Rattle.lists.proofs.Laws.{sum_next, sum_take_drop}
use Rattle.lists.specs.Lists.{split, sum}

module _ {ℓ} {A : Type ℓ} where
  -- the parts from number k on
  pub drop_split : (k : ℕ) (ns : List ℕ) (xs : List A) → drop k (split ns xs) ≡ split (drop k ns) (drop (sum (take k ns)) xs)
  unfolding split sum
  drop_split zero ns xs = refl
  drop_split (suc k) [] xs = refl
  drop_split (suc k) (n ∷ ns) xs = drop_split k ns (drop n xs) ∙ ap (split (drop k ns)) (drop-drop (sum (take k ns)) n xs)

  -- the first n parts
  pub take_split : (n : ℕ) (ns : List ℕ) (xs : List A) → take n (split ns xs) ≡ split (take n ns) xs
  unfolding split
  take_split zero ns xs = refl
  take_split (suc n) [] xs = refl
  take_split (suc n) (m ∷ ns) xs = ap (λ (r : List (List A)). take m xs ∷ r) (take_split n ns (drop m xs))

  pub drop_take : (n m : ℕ) (xs : List A) → n ≤ m → drop n (take m xs) ≡ take (m - n) (drop n xs)
  drop_take zero m xs h = let e : m - 0 ≡ m = omega arith in rw e
  drop_take (suc n) zero xs h = absurd (omega arith)
  drop_take (suc n) (suc m) [] h = sym (take-nil (suc m - suc n))
  drop_take (suc n) (suc m) (x ∷ xs) h = let e : suc m - suc n ≡ m - n = omega arith in rw e (drop_take n m xs (omega arith))

  -- what stands after the parts is of no matter
  pub split_take : (ns : List ℕ) (m : ℕ) (xs : List A) → sum ns ≤ m → split ns (take m xs) ≡ split ns xs
  unfolding split sum
  split_take [] m xs h = refl
  split_take (n ∷ ns) m xs h =
      let rest : split ns (drop n (take m xs)) ≡ split ns (drop n xs) =
      rw (drop_take n m xs (omega arith)) (split_take ns (m - n) (drop n xs) (omega arith)) in
      rw (take-take n m xs (omega arith), rest)

  -- n parts from number w on
  pub split_run : (ns : List ℕ) (xs : List A) (w n : ℕ)
      → take n (drop w (split ns xs)) ≡ split (take n (drop w ns)) (take (sum (take n (drop w ns))) (drop (sum (take w ns)) xs))
  split_run ns xs w n =
      rw (drop_split w ns xs, take_split n (drop w ns) (drop (sum (take w ns)) xs))
      (sym (split_take (take n (drop w ns)) (sum (take n (drop w ns))) (drop (sum (take w ns)) xs) (omega arith)))

  -- part k
  pub get_d_split : (ns : List ℕ) (xs : List A) (k : ℕ) → get_or (split ns xs) k [] ≡ take (get_or ns k 0) (drop (sum (take k ns)) xs)
  unfolding split sum
  get_d_split [] xs k = refl
  get_d_split (n ∷ ns) xs zero = refl
  get_d_split (n ∷ ns) xs (suc k) = get_d_split ns (drop n xs) k ∙ ap (take (get_or ns k 0)) (drop-drop (sum (take k ns)) n xs)

-- a walk along the parts: k are passed, and part k begins at place `at`
pub record Walk (ns : List ℕ) (k at : ℕ) : Type 0 where
  pub low : k ≤ length ns
  pub here : at ≡ sum (take k ns)

pub walk_start : (ns : List ℕ) → Walk ns 0 0
unfolding sum
walk_start ns = record { low = omega arith; here = refl }

-- part k has n elements
module _ (ns : List ℕ) (k at n : ℕ) (s : Walk ns k at) (h : k < length ns) (is : n ≡ get_or ns k 0) where
  pub walk_next : Walk ns (k + 1) (at + n)
  walk_next = record { low = omega arith; here = rw add-one (omega (arith, sum_next ns k, s.here)) }

  pub walk_fits : at + n ≤ sum ns
  walk_fits = omega (arith, sum_next ns k, s.here, sum_take_drop (suc k) ns)

  -- part k, as the code takes it
  pub walk_part {ℓ} : {A : Type ℓ} (xs : List A) → get_or (split ns xs) k [] ≡ take (at + n - at) (drop at xs)
  walk_part xs = let e : at + n - at ≡ n = omega arith in rw (e, is, s.here) (get_d_split ns xs k)
