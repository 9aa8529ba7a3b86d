-- Laws of `only`, of tables, and of groups.
use Prim.Native.Nat.{◌<◌, ◌≤◌, suc, suc-le-suc, zero, ℕ}
use mathlib.Core.Bool.{Bool}
use mathlib.Core.List.{List, [], ◌++◌, ◌∷◌, append-nil, map, map-append}
use mathlib.Core.Path.{◌∙◌, ◌≡◌, ap, refl}
use native.Mathlib.Omega.{arith}
use lib.Dec.{eqb}
use Rattle.lists.proofs.Parts.{map_same, only_append, only_same}
use Rattle.lists.proofs.Count.{All, all_only, count_same}
use Rattle.lists.specs.Lists.{count, flat, numbers, only, pick, tabulate}
use Rattle.shell.specs.Components.{groups_of}

module _ {A : Type 0} where
  -- one more at the end
  pub only_snoc : (q : A → Bool) (xs : List A) (y : A) (b : Bool) → q y ≡ b → only q (xs ++ (y ∷ [])) ≡ only q xs ++ pick b (y ∷ []) []
  unfolding only
  only_snoc q xs y b e = only_append q xs (y ∷ []) ∙ rw (e, append-nil)

  pub all_tabulate : (P : A → Type 0) (n : ℕ) (f : ℕ → A) → ((k : ℕ) → k < n → P (f k)) → All P (tabulate n f)
  unfolding tabulate
  all_tabulate P zero f h = tt
  all_tabulate P (suc n) f h = (h 0 (omega arith), all_tabulate P n (λ (k : ℕ). f (suc k)) (λ k l. h (suc k) (suc-le-suc l)))

module _ {A B : Type 0} where
  pub flat_map : (f : A → B) (xss : List (List A)) → flat (map (map f) xss) ≡ map f (flat xss)
  unfolding flat
  flat_map f [] = refl
  flat_map f (xs ∷ xss) = rw (flat_map f xss, map-append f xs (flat xss))

-- tests that agree on all members give the same groups
pub groups_same : (n : ℕ) (same same' : ℕ → ℕ → Bool) → ((i j : ℕ) → i < n → j < n → same i j ≡ same' i j) → groups_of n same ≡ groups_of n same'
unfolding groups_of
groups_same n same same' h =
    let first : (ℕ → ℕ → Bool) → ℕ → Bool = λ (s : ℕ → ℕ → Bool) (i : ℕ). eqb 0 (count (s i) (numbers i)) in
    let members : (i m : ℕ) → i < n → m ≤ n → All (λ (j : ℕ). same i j ≡ same' i j) (numbers m) =
    λ i m l o. all_tabulate (λ (j : ℕ). same i j ≡ same' i j) m (λ (k : ℕ). k) (λ k u. h i k l (omega arith)) in
    let firsts : only (first same) (numbers n) ≡ only (first same') (numbers n) =
    only_same (first same) (first same') (numbers n)
    (all_tabulate (λ (i : ℕ). first same i ≡ first same' i) n (λ (k : ℕ). k)
    (λ k u. ap (eqb 0) (count_same (same k) (same' k) (numbers k) (members k k u (omega arith))))) in
    ap (map (λ (i : ℕ). only (same i) (numbers n))) firsts
    ∙ map_same (λ (i : ℕ). only (same i) (numbers n)) (λ (i : ℕ). only (same' i) (numbers n)) (only (first same') (numbers n))
    (all_only (λ (i : ℕ). only (same i) (numbers n) ≡ only (same' i) (numbers n)) (first same') (numbers n)
    (all_tabulate (λ (i : ℕ). only (same i) (numbers n) ≡ only (same' i) (numbers n)) n (λ (k : ℕ). k)
    (λ k u. only_same (same k) (same' k) (numbers n) (members k n u (omega arith)))))
