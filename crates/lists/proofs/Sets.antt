-- Lists written into a list one after the other.
use Prim.Native.Nat.{◌*◌, ◌+◌, ◌<◌, ◌≤◌, suc, zero, ℕ}
use mathlib.Core.List.{List, [], ◌++◌, ◌∷◌, append_assoc, append-nil, map}
use mathlib.Core.Path.{◌∙◌, ◌≡◌, ap, refl, sym}
use native.Mathlib.Nat.{add-zero, le_of_suc-le-suc, mul-le-mul_left, mul-suc, not-suc-le-zero}
use native.Mathlib.Numerals.{add-one}
use native.Mathlib.Omega.{arith}
use lib.ListN.{drop, get_or, length, length-append, set, take}
use lib.Seq.{length-sets, length-take-le, sets, sets-eq, take-append_seam, take-suc}
use Rattle.lists.proofs.Flat.{length_flat}
use Rattle.lists.specs.Lists.{flat}

module _ {ℓ} {A : Type ℓ} where
  -- what was stored from the front on
  pub take_sets : (l xs : List A) (n : ℕ) → length xs ≡ n → n ≤ length l → take n (sets l 0 xs) ≡ xs
  take_sets l xs n e h = rw (← e) (ap (take (length xs)) (sets-eq xs l 0 (omega arith)) ∙ take-append_seam xs (drop (0 + length xs) l))

  -- a list stored, and another after it
  pub sets_append : (l : List A) (i : ℕ) (xs ys : List A) → sets (sets l i xs) (i + length xs) ys ≡ sets l i (xs ++ ys)
  sets_append l i [] ys = rw add-zero
  sets_append l i (x ∷ xs) ys =
      let e : i + suc (length xs) ≡ suc i + length xs = omega arith in
      rw (e, sets_append (set l i x) (suc i) xs ys)

  -- the same, of the lists before and after
  pub sets_then : (l : List A) (i : ℕ) (xs ys : List A) (at : ℕ) {out out' : List A} → at ≡ i + length xs → out ≡ sets l i xs → out' ≡ sets out at ys
      → out' ≡ sets l i (xs ++ ys)
  sets_then l i xs ys at p e f = f ∙ rw (e, p) (sets_append l i xs ys)

  -- one turn of a loop that stores a list: what is stored after i turns
  pub sets_next : (l : List A) (at : ℕ) (xs : List A) (i : ℕ) (d : A) → i < length xs
      → set (sets l at (take i xs)) (at + i) (get_or xs i d) ≡ sets l at (take (i + 1) xs)
  sets_next l at xs i d h =
      let e : length (take i xs) ≡ i = length-take-le i xs (omega arith) in
      rw (add-one, take-suc xs i d h, ← sets_append l at (take i xs) (get_or xs i d ∷ []), e)

  -- what a function that stores xs from i on owes: the list after it, and the place after it
  abbrev pub Put : List A → ℕ → List A → List A → ℕ → Type ℓ
  Put l i xs out at = (out ≡ sets l i xs) × (at ≡ i + length xs)

  -- two of them, one after the other
  pub put_then : (l : List A) (i : ℕ) (xs ys out out' : List A) (at at' : ℕ) → Put l i xs out at → Put out at ys out' at' → Put l i (xs ++ ys) out' at'
  put_then l i xs ys out out' at at' p q =
      (rw (q.0, p.0, p.1, sets_append l i xs ys), omega (arith, p.1, q.1, length-append xs ys))

module _ {ℓ ℓ'} {A : Type ℓ} {B : Type ℓ'} (f : A → List B) where
  pub flat_next : (xs : List A) (k : ℕ) (d : A) → k < length xs → flat (map f (take (suc k) xs)) ≡ flat (map f (take k xs)) ++ f (get_or xs k d)
  unfolding flat
  flat_next [] k d h = absurd (not-suc-le-zero h)
  flat_next (x ∷ xs) zero d h = append-nil (f x)
  flat_next (x ∷ xs) (suc k) d h = rw (flat_next xs k d (le_of_suc-le-suc h), append_assoc)

  -- a loop that stores the first n records of a list, each of one size, from `at` on: what is stored after k turns
  pub record Laid (size : ℕ) (l : List B) (at : ℕ) (xs : List A) (n : ℕ) (out : List B) (k : ℕ) : Type (ℓ ⊔ ℓ') where
    pub sized : (x : A) → length (f x) ≡ size
    pub within : n ≤ length xs
    pub low : k ≤ n
    pub so_far : out ≡ sets l at (flat (map f (take k xs)))

  module _ (size : ℕ) (l : List B) (at : ℕ) (xs : List A) (n : ℕ) where
    pub laid_start : ((x : A) → length (f x) ≡ size) → n ≤ length xs → Laid size l at xs n l 0
    unfolding flat
    laid_start e h = record { sized = e; within = h; low = omega arith; so_far = refl }

    module _ (out : List B) (k : ℕ) (s : Laid size l at xs n out k) where
      pub laid_long : length out ≡ length l
      laid_long = ap length s.so_far ∙ length-sets l at (flat (map f (take k xs)))

      -- there is room for record k where there is for all
      pub laid_room : at + size * n ≤ length l → k < n → at + size * k + size ≤ length out
      laid_room h m = omega (arith, laid_long, mul-suc size k, mul-le-mul_left size m)

      pub laid_next : (out' : List B) (d : A) → k < n → out' ≡ sets out (at + size * k) (f (get_or xs k d)) → Laid size l at xs n out' (k + 1)
      laid_next out' d h e =
          let part = flat (map f (take k xs)) in
          let long : size * k ≡ length part =
          sym (length_flat f size s.sized (take k xs) ∙ ap (λ (m : ℕ). size * m) (length-take-le k xs (omega (arith, s.within)))) in
          record {
            sized = s.sized;
            within = s.within;
            low = omega arith;
            so_far = e ∙ rw (s.so_far, long, sets_append l at part (f (get_or xs k d)), add-one, flat_next xs k d (omega (arith, s.within)));
          }

      pub laid_all : n ≤ k → out ≡ sets l at (flat (map f (take n xs)))
      laid_all h = let e : k ≡ n = omega (arith, s.low) in rw e at s.so_far
