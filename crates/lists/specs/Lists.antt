-- Definitions on lists.
use Rattle.std.specs.Prelude.{ℕ, zero, suc, ◌+◌, ◌-◌, Bool, true, false, not, ◌&&◌, ◌||◌, List, [], ◌∷◌, ◌++◌, eqb, length, take, drop, replicate}

-- one of two, by a test
abbrev pub pick {ℓ} : {A : Type ℓ} → Bool → A → A → A
pick true a b = a
pick false a b = b

-- the element alone where the test fails, else nothing
abbrev pub unless {ℓ} : {A : Type ℓ} → Bool → A → List A
unless true a = []
unless false a = a ∷ []

-- p stands in the list
unfoldable pub has : ℕ → List ℕ → Bool
has p [] = false
has p (q ∷ qs) = eqb p q || has p qs

-- no number stands in the list twice
unfoldable pub no_dup : List ℕ → Bool
no_dup [] = true
no_dup (p ∷ ps) = not (has p ps) && no_dup ps

-- the two lists have no number in common
unfoldable pub disjoint : List ℕ → List ℕ → Bool
disjoint [] qs = true
disjoint (p ∷ ps) qs = not (has p qs) && disjoint ps qs

-- rotated left by one: after the last, the first
abbrev pub rotated : List ℕ → List ℕ
rotated ns = drop 1 ns ++ take 1 ns

unfoldable pub sum : List ℕ → ℕ
sum [] = 0
sum (n ∷ ns) = n + sum ns

module _ {ℓ} {A : Type ℓ} where
  -- how many elements pass the test
  unfoldable pub count : (A → Bool) → List A → ℕ
  count q [] = 0
  count q (x ∷ xs) = pick (q x) 1 0 + count q xs

  -- those that pass the test, in sequence
  unfoldable pub only : (A → Bool) → List A → List A
  only q [] = []
  only q (x ∷ xs) = pick (q x) (x ∷ []) [] ++ only q xs

  -- f 0, f 1, .., n of them
  unfoldable pub tabulate : ℕ → (ℕ → A) → List A
  tabulate zero f = []
  tabulate (suc n) f = f 0 ∷ tabulate n (λ (k : ℕ). f (suc k))

  -- the lists one after the other
  unfoldable pub flat : List (List A) → List A
  flat [] = []
  flat (xs ∷ xss) = xs ++ flat xss

  -- the list cut into parts of these lengths, in sequence
  unfoldable pub split : List ℕ → List A → List (List A)
  split [] xs = []
  split (n ∷ ns) xs = take n xs ∷ split ns (drop n xs)

  -- the list, with d after it up to length n
  abbrev pub padded : ℕ → A → List A → List A
  padded n d xs = xs ++ replicate (n - length xs) d

-- 0, 1, .., n of them
abbrev pub numbers : ℕ → List ℕ
numbers n = tabulate n (λ (k : ℕ). k)

-- each number once, where it first stands
unfoldable pub once : List ℕ → List ℕ
once [] = []
once (p ∷ ps) = p ∷ only (λ (q : ℕ). not (eqb p q)) (once ps)
