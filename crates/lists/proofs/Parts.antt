-- Parts of a list, the elements that pass a test, and what holds at every place.
use Prim.Native.Nat.{◌<◌, ◌≤◌, suc, zero, ℕ}
use mathlib.Core.Bool.{Bool, false, true}
use mathlib.Core.List.{List, [], ◌++◌, ◌∷◌, append_assoc, append-nil, map}
use mathlib.Core.Logic.{⊎_elim}
use mathlib.Core.Path.{◌≡◌, refl, sym}
use native.Mathlib.Nat.{le_of_suc-le-suc, not-suc-le-zero}
use native.Mathlib.Omega.{arith}
use lib.ListN.{drop, get_or, length, length-drop, take-append-drop}
use lib.Seq.{drop-append_seam, take-append_seam}
use Rattle.lists.proofs.Count.{All, all_append, count_length, count_only_le}
use Rattle.lists.proofs.Laws.{cases, flat_append, map_tabulate, tabulate_suc}
use Rattle.lists.specs.Lists.{count, flat, numbers, only, pick, split, sum, tabulate}

module _ {ℓ} {A : Type ℓ} where
  -- the parts, one after the other, are the list
  pub flat_split : (ns : List ℕ) (xs : List A) → sum ns ≡ length xs → flat (split ns xs) ≡ xs
  unfolding split sum flat
  flat_split [] [] e = refl
  flat_split [] (x ∷ xs) e = absurd (omega arith)
  flat_split (n ∷ ns) xs e = rw (flat_split ns (drop n xs) (omega (arith, length-drop n xs))) (take-append-drop n xs)

  -- lists one after the other are cut into themselves
  pub split_flat : (xss : List (List A)) → split (map length xss) (flat xss) ≡ xss
  unfolding split flat
  split_flat [] = refl
  split_flat (xs ∷ xss) = rw (take-append_seam xs (flat xss), drop-append_seam xs (flat xss), split_flat xss)

  pub flat_one : (xs : List A) → flat (xs ∷ []) ≡ xs
  unfolding flat
  flat_one xs = append-nil xs

  -- what each number below n gives, and n
  pub flat_numbers : (f : ℕ → List A) (n : ℕ) → flat (map f (numbers (suc n))) ≡ flat (map f (numbers n)) ++ f n
  flat_numbers f n =
      rw (map_tabulate f (suc n) (λ (i : ℕ). i), map_tabulate f n (λ (i : ℕ). i), tabulate_suc n f, flat_append (tabulate n f) (f n ∷ []), flat_one (f n))

  -- those that pass, of two lists
  pub only_append : (q : A → Bool) (xs ys : List A) → only q (xs ++ ys) ≡ only q xs ++ only q ys
  unfolding only
  only_append q [] ys = refl
  only_append q (x ∷ xs) ys = rw (only_append q xs ys) (sym (append_assoc (pick (q x) (x ∷ []) []) (only q xs) (only q ys)))

  -- tests that agree on the list
  pub only_same : (q r : A → Bool) (xs : List A) → All (λ (x : A). q x ≡ r x) xs → only q xs ≡ only r xs
  unfolding only
  only_same q r [] h = refl
  only_same q r (x ∷ xs) h = rw (h.0, only_same q r xs h.1)

  -- none passes
  pub only_none : (q : A → Bool) (xs : List A) → All (λ (x : A). q x ≡ false) xs → only q xs ≡ []
  unfolding only
  only_none q [] h = refl
  only_none q (x ∷ xs) h = rw h.0 (only_none q xs h.1)

  pub none_counted : (q : A → Bool) (xs : List A) → count q xs ≡ 0 → All (λ (x : A). q x ≡ false) xs
  unfolding count
  none_counted q [] h = tt
  none_counted q (x ∷ xs) h =
      ⊎_elim
      (λ (e : q x ≡ true). absurd (omega (arith, rw e at h)))
      (λ (e : q x ≡ false). (e, none_counted q xs (omega (arith, rw e at h))))
      (cases (q x))

  pub length_only : (q : A → Bool) (xs : List A) → length (only q xs) ≤ length xs
  length_only q xs = omega (arith, count_length (only q xs), count_length xs, count_only_le (λ (x : A). true) q xs)

  -- what holds of every element holds at every place
  pub all_place : (P : A → Type 0) (d : A) (xs : List A) → All P xs → (k : ℕ) → k < length xs → P (get_or xs k d)
  all_place P d [] h k l = absurd (not-suc-le-zero l)
  all_place P d (x ∷ xs) h zero l = h.0
  all_place P d (x ∷ xs) h (suc k) l = all_place P d xs h.1 k (le_of_suc-le-suc l)

  -- what holds of every element of every list
  pub all_flat : (P : A → Type 0) (xss : List (List A)) → All (All P) xss → All P (flat xss)
  unfolding flat
  all_flat P [] h = tt
  all_flat P (xs ∷ xss) h = all_append P xs (flat xss) h.0 (all_flat P xss h.1)

module _ {A B : Type 0} where
  pub map_drop : (f : A → B) (n : ℕ) (xs : List A) → map f (drop n xs) ≡ drop n (map f xs)
  map_drop f zero xs = refl
  map_drop f (suc n) [] = refl
  map_drop f (suc n) (x ∷ xs) = map_drop f n xs

  -- functions that agree on the list
  pub map_same : (f g : A → B) (xs : List A) → All (λ (x : A). f x ≡ g x) xs → map f xs ≡ map g xs
  map_same f g [] h = refl
  map_same f g (x ∷ xs) h = rw (h.0, map_same f g xs h.1)
