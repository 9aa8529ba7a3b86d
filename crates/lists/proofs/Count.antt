-- Laws of counting: two lists are compared by how many of their elements pass each test.
use Prim.Native.Nat.{◌+◌, ◌<◌, ◌≤◌, suc, zero, ℕ}
use mathlib.Core.Bool.{Bool, ◌&&◌, false, not, true}
use mathlib.Core.List.{List, [], ◌++◌, ◌∷◌, map, reverse, reverse_aux}
use mathlib.Core.Path.{◌≡◌, refl}
use native.Mathlib.Omega.{arith}
use lib.ListN.{drop, get_or, length, replicate, set, take}
use Rattle.lists.specs.Lists.{count, flat, only, pick, split}

-- a test as a number
abbrev pub bit : Bool → ℕ
bit b = pick b 1 0

-- a claim of every element
abbrev pub All {ℓ} : {A : Type ℓ} → (A → Type 0) → List A → Type 0
All P [] = Unit {0}
All P (x ∷ xs) = P x × All P xs

halves : (a b : Bool) → bit b ≡ bit (a && b) + bit (not a && b)
halves true b = omega arith
halves false b = omega arith

module _ {ℓ} {A : Type ℓ} where
  pub count_cons : (q : A → Bool) (x : A) (xs : List A) → count q (x ∷ xs) ≡ bit (q x) + count q xs
  unfolding count
  count_cons q x xs = refl

  pub count_append : (q : A → Bool) (xs ys : List A) → count q (xs ++ ys) ≡ count q xs + count q ys
  unfolding count
  count_append q [] ys = omega arith
  count_append q (x ∷ xs) ys = omega (arith, count_append q xs ys)

  pub count_flat : (q : A → Bool) (xs : List A) (xss : List (List A)) → count q (flat (xs ∷ xss)) ≡ count q xs + count q (flat xss)
  unfolding flat
  count_flat q xs xss = count_append q xs (flat xss)

  pub count_length : (xs : List A) → count (λ (x : A). true) xs ≡ length xs
  unfolding count
  count_length [] = refl
  count_length (x ∷ xs) = omega (arith, count_length xs)

  count_onto : (q : A → Bool) (xs ys : List A) → count q (reverse_aux xs ys) ≡ count q xs + count q ys
  unfolding count
  count_onto q [] ys = omega arith
  count_onto q (x ∷ xs) ys = omega (arith, count_onto q xs (x ∷ ys))

  pub count_reverse : (q : A → Bool) (xs : List A) → count q (reverse xs) ≡ count q xs
  unfolding count
  count_reverse q xs = omega (arith, count_onto q xs [])

  -- tests that agree on the list count the same
  pub count_same : (q r : A → Bool) (xs : List A) → All (λ (x : A). q x ≡ r x) xs → count q xs ≡ count r xs
  unfolding count
  count_same q r [] h = refl
  count_same q r (x ∷ xs) h = rw (h.0, count_same q r xs h.1)

  pub count_none : (q : A → Bool) (xs : List A) → All (λ (x : A). q x ≡ false) xs → count q xs ≡ 0
  unfolding count
  count_none q [] h = refl
  count_none q (x ∷ xs) h = rw (h.0, count_none q xs h.1)

  pub count_halves : (q r : A → Bool) (xs : List A) → count q xs ≡ count (λ (x : A). r x && q x) xs + count (λ (x : A). not (r x) && q x) xs
  unfolding count
  count_halves q r [] = refl
  count_halves q r (x ∷ xs) = omega (arith, count_halves q r xs, halves (r x) (q x))

  only_one : (q : A → Bool) (x : A) (b : Bool) → count q (pick b (x ∷ []) []) ≡ bit (b && q x)
  unfolding count
  only_one q x true = omega arith
  only_one q x false = refl

  pub count_only : (q r : A → Bool) (xs : List A) → count q (only r xs) ≡ count (λ (x : A). r x && q x) xs
  unfolding count only
  count_only q r [] = refl
  count_only q r (x ∷ xs) = omega (arith, count_append q (pick (r x) (x ∷ []) []) (only r xs), only_one q x (r x), count_only q r xs)

  pub count_only_le : (q r : A → Bool) (xs : List A) → count q (only r xs) ≤ count q xs
  count_only_le q r xs = omega (arith, count_only q r xs, count_halves q r xs)

  pub all_append : (P : A → Type 0) (xs ys : List A) → All P xs → All P ys → All P (xs ++ ys)
  all_append P [] ys h k = k
  all_append P (x ∷ xs) ys h k = (h.0, all_append P xs ys h.1 k)

  pub all_take : (P : A → Type 0) (n : ℕ) (xs : List A) → All P xs → All P (take n xs)
  all_take P zero xs h = tt
  all_take P (suc n) [] h = tt
  all_take P (suc n) (x ∷ xs) h = (h.0, all_take P n xs h.1)

  pub all_drop : (P : A → Type 0) (n : ℕ) (xs : List A) → All P xs → All P (drop n xs)
  all_drop P zero xs h = h
  all_drop P (suc n) [] h = tt
  all_drop P (suc n) (x ∷ xs) h = all_drop P n xs h.1

  pub all_split : (P : A → Type 0) (ns : List ℕ) (xs : List A) → All P xs → All (All P) (split ns xs)
  unfolding split
  all_split P [] xs h = tt
  all_split P (n ∷ ns) xs h = (all_take P n xs h, all_split P ns (drop n xs) (all_drop P n xs h))

  pub all_set : (P : A → Type 0) (xs : List A) (i : ℕ) (y : A) → All P xs → P y → All P (set xs i y)
  all_set P [] i y h r = tt
  all_set P (x ∷ xs) zero y h r = (r, h.1)
  all_set P (x ∷ xs) (suc i) y h r = (h.0, all_set P xs i y h.1 r)

  pub all_replicate : (P : A → Type 0) (n : ℕ) (x : A) → P x → All P (replicate n x)
  all_replicate P zero x h = tt
  all_replicate P (suc n) x h = (h, all_replicate P n x h)

  all_onto : (P : A → Type 0) (xs ys : List A) → All P xs → All P ys → All P (reverse_aux xs ys)
  all_onto P [] ys h k = k
  all_onto P (x ∷ xs) ys h k = all_onto P xs (x ∷ ys) h.1 (h.0, k)

  pub all_reverse : (P : A → Type 0) (xs : List A) → All P xs → All P (reverse xs)
  all_reverse P xs h = all_onto P xs [] h tt

  pub all_only : (P : A → Type 0) (r : A → Bool) (xs : List A) → All P xs → All P (only r xs)
  unfolding only
  all_only P r [] h = tt
  all_only P r (x ∷ xs) h = all_append P (pick (r x) (x ∷ []) []) (only r xs) (one (r x)) (all_only P r xs h.1)
    where
      one : (b : Bool) → All P (pick b (x ∷ []) [])
      one true = (h.0, tt)
      one false = tt

  -- what holds of every element holds of each, and of the default past the end
  pub all_at : (P : A → Type 0) (d : A) → P d → (xs : List A) → All P xs → (k : ℕ) → P (get_or xs k d)
  all_at P d z [] h k = z
  all_at P d z (x ∷ xs) h zero = h.0
  all_at P d z (x ∷ xs) h (suc k) = all_at P d z xs h.1 k

  pub all_each : (P : A → Type 0) (d : A) (xs : List A) → ((k : ℕ) → k < length xs → P (get_or xs k d)) → All P xs
  all_each P d [] h = tt
  all_each P d (x ∷ xs) h = (h 0 (omega arith), all_each P d xs (λ k l. h (suc k) (omega arith)))

  pub all_weaker : (P Q : A → Type 0) → ((x : A) → P x → Q x) → (xs : List A) → All P xs → All Q xs
  all_weaker P Q f [] h = tt
  all_weaker P Q f (x ∷ xs) h = (f x h.0, all_weaker P Q f xs h.1)

module _ {ℓ ℓ'} {A : Type ℓ} {B : Type ℓ'} where
  pub count_map : (q : B → Bool) (f : A → B) (xs : List A) → count q (map f xs) ≡ count (λ (x : A). q (f x)) xs
  unfolding count
  count_map q f [] = refl
  count_map q f (x ∷ xs) = omega (arith, count_map q f xs)

  pub all_map : (P : A → Type 0) (Q : B → Type 0) (f : A → B) → ((x : A) → P x → Q (f x)) → (xs : List A) → All P xs → All Q (map f xs)
  all_map P Q f g [] h = tt
  all_map P Q f g (x ∷ xs) h = (g x h.0, all_map P Q f g xs h.1)

  pub all_flat_map : (Q : B → Type 0) (f : A → List B) → ((x : A) → All Q (f x)) → (xs : List A) → All Q (flat (map f xs))
  unfolding flat
  all_flat_map Q f g [] = tt
  all_flat_map Q f g (x ∷ xs) = all_append Q (f x) (flat (map f xs)) (g x) (all_flat_map Q f g xs)
