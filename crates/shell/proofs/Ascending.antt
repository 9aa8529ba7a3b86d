-- Lists in which each has a higher number than those before it.
use Prim.Native.Nat.{◌<◌, suc, zero, ℕ}
use mathlib.Core.Bool.{Bool, false, true}
use mathlib.Core.List.Memᴰ
use mathlib.Core.List.{List, [], ◌++◌, ◌∷◌, map}
use mathlib.Core.Path.{◌≡◌, refl}
use native.Mathlib.Nat.{le_of_suc-le-suc, not-suc-le-zero}
use native.Mathlib.Omega.{arith}
use lib.ListN.{get_or, length}
use Rattle.groups.proofs.Alike.{member_at}
use Rattle.groups.proofs.Members.{of_only, of_table}
use Rattle.lists.specs.Lists.{numbers, only, pick, tabulate}
use Rattle.shell.specs.Meaning.{Ascends, ◌∈◌}

module _ {A : Type 0} where
  -- those that pass a test
  pub ascends_only : (f : A → ℕ) (q : A → Bool) (xs : List A) → Ascends f xs → Ascends f (only q xs)
  unfolding only
  ascends_only f q [] h = tt
  ascends_only f q (x ∷ xs) h = one (q x) (ascends_only f q xs h.1)
    where
      one : (b : Bool) → Ascends f (only q xs) → Ascends f (pick b (x ∷ []) [] ++ only q xs)
      one true r = (λ y m. h.0 y (of_only q xs y m).0, r)
      one false r = r

  -- by the same numbers
  pub ascends_same : (f g : A → ℕ) (xs : List A) → ((x : A) → x ∈ xs → f x ≡ g x) → Ascends f xs → Ascends g xs
  ascends_same f g [] e h = tt
  ascends_same f g (x ∷ xs) e h = (
    λ y m. rw (← e x (Memᴰ.head refl), ← e y (Memᴰ.tail m)) (h.0 y m),
    ascends_same f g xs (λ y m. e y (Memᴰ.tail m)) h.1,
  )

  pub ascends_suc : (f : A → ℕ) (xs : List A) → Ascends f xs → Ascends (λ (x : A). suc (f x)) xs
  ascends_suc f [] h = tt
  ascends_suc f (x ∷ xs) h = (λ y m. omega (arith, h.0 y m), ascends_suc f xs h.1)

  -- place by place
  pub ascends_at : (f : A → ℕ) (d : A) (xs : List A) → Ascends f xs → (i j : ℕ) → i < j → j < length xs → f (get_or xs i d) < f (get_or xs j d)
  ascends_at f d [] h i j l k = absurd (not-suc-le-zero k)
  ascends_at f d (x ∷ xs) h i zero l k = absurd (not-suc-le-zero l)
  ascends_at f d (x ∷ xs) h zero (suc j) l k = h.0 (get_or xs j d) (member_at d xs j (le_of_suc-le-suc k))
  ascends_at f d (x ∷ xs) h (suc i) (suc j) l k = ascends_at f d xs h.1 i j (le_of_suc-le-suc l) (le_of_suc-le-suc k)

  pub ascends_table : (f : A → ℕ) (n : ℕ) (g : ℕ → A) → ((i j : ℕ) → i < j → j < n → f (g i) < f (g j)) → Ascends f (tabulate n g)
  unfolding tabulate
  ascends_table f zero g h = tt
  ascends_table f (suc n) g h = (
    λ y m. of_table (λ (z : A). f (g 0) < f z) n (λ (k : ℕ). g (suc k)) (λ k l. h 0 (suc k) (omega arith) (omega (arith, l))) y m,
    ascends_table f n (λ (k : ℕ). g (suc k)) (λ i j l k. h (suc i) (suc j) (omega (arith, l)) (omega (arith, k))),
  )

pub ascends_map : {A B : Type 0} (f : B → ℕ) (g : A → B) (xs : List A) → Ascends (λ (x : A). f (g x)) xs → Ascends f (map g xs)
ascends_map f g [] h = tt
ascends_map f g (x ∷ xs) h = (λ y m. let r = Memᴰ.of_map g xs m in rw (← r.2) (h.0 r.0 r.1), ascends_map f g xs h.1)

pub ascends_numbers : (n : ℕ) → Ascends (λ (k : ℕ). k) (numbers n)
ascends_numbers n = ascends_table (λ (k : ℕ). k) n (λ (k : ℕ). k) (λ i j l k. l)
