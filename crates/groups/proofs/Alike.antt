-- Links with the same members make the same groups, and so do links that are chains of each other's.
use Prim.Native.Nat.{◌<◌, ◌≤◌, suc, zero, ℕ}
use mathlib.Core.Bool.{Bool, false, true, true≢false}
use mathlib.Core.List.{List, Memᴰ, [], ◌∷◌, map}
use mathlib.Core.Logic.{⊎_elim}
use mathlib.Core.Path.{◌∙◌, ◌≡◌, refl, sym}
use native.Mathlib.Nat.{le_of_suc-le-suc, lt_of_lt_of_le, not-suc-le-zero}
use lib.ListN.{get_or, length}
use Rattle.groups.proofs.Meaning.{back, chain, linked_one_group, one_group_linked}
use Rattle.groups.specs.Groups.{Inside, Link, Linked, against, along, here, one_group}
use Rattle.lists.proofs.Laws.{cases}
use Rattle.lists.specs.Lists.{flat}

-- every member of the first list is one of the second
abbrev pub Within {ℓ} : {A : Type ℓ} → List A → List A → Type ℓ
Within {A} xs ys = (x : A) → Memᴰ x xs → Memᴰ x ys

-- every member of the list is below n
abbrev pub Under : ℕ → List ℕ → Type 0
Under n xs = (x : ℕ) → Memᴰ x xs → x < n

-- every link of the first is a chain of the second
abbrev pub Covers : List Link → List Link → Type 0
Covers L L' = (l : Link) → Memᴰ l L → Linked L' l.a l.b

pub covers_linked : {L L' : List Link} → Covers L L' → {x y : ℕ} → Linked L x y → Linked L' x y
covers_linked c here = here
covers_linked c (along l m p) = chain (c l m) (covers_linked c p)
covers_linked c (against l m p) = chain (back (c l m)) (covers_linked c p)

pub within_covers : {L L' : List Link} → Within L L' → Covers L L'
within_covers w l m = along l (w l m) here

one_group_more : (n : ℕ) (L L' : List Link) (ps ps' : List ℕ) → Inside n L → Inside n L' → Covers L L' → Under n ps → Within ps' ps
    → one_group n L ps ≡ true → one_group n L' ps' ≡ true
one_group_more n L L' ps ps' i i' c u w e =
    linked_one_group n L' i' ps' (λ x m. u x (w x m))
    (λ x y mx my. covers_linked c (one_group_linked n L i ps u e x y (w x mx) (w y my)))

both : (a b : Bool) → (a ≡ true → b ≡ true) → (b ≡ true → a ≡ true) → a ≡ b
both a b f g =
    ⊎_elim
    (λ (e : a ≡ true). e ∙ sym (f e))
    (λ (e : a ≡ false). e ∙ sym (⊎_elim (λ (o : b ≡ true). absurd (true≢false (sym (g o) ∙ e))) (λ (o : b ≡ false). o) (cases b)))
    (cases a)

module _ (n : ℕ) (L L' : List Link) (ps ps' : List ℕ) (inside : Inside n L) (inside' : Inside n L') (under : Under n ps) (to : Within ps ps') (from : Within ps' ps) where
  -- the same members in one group, by links that are chains of each other's
  pub one_group_covers : Covers L L' → Covers L' L → one_group n L ps ≡ one_group n L' ps'
  one_group_covers c c' =
      both (one_group n L ps) (one_group n L' ps')
      (one_group_more n L L' ps ps' inside inside' c under from)
      (one_group_more n L' L ps' ps inside' inside c' (λ x m. under x (from x m)) to)

  pub one_group_alike : Within L L' → Within L' L → one_group n L ps ≡ one_group n L' ps'
  one_group_alike w w' = one_group_covers (within_covers w) (within_covers w')

-- members past those of the links change nothing
pub one_group_larger : (n m : ℕ) (L : List Link) (ps : List ℕ) → n ≤ m → Inside n L → Under n ps → one_group m L ps ≡ one_group n L ps
one_group_larger n m L ps h inside under =
    let inside' : Inside m L = λ l o. (lt_of_lt_of_le (inside l o).0 h, lt_of_lt_of_le (inside l o).1 h) in
    let under' : Under m ps = λ x o. lt_of_lt_of_le (under x o) h in
    both (one_group m L ps) (one_group n L ps)
    (λ e. linked_one_group n L inside ps under (one_group_linked m L inside' ps under' e))
    (λ e. linked_one_group m L inside' ps under' (one_group_linked n L inside ps under e))

-- what stands at a place of a list is a member of it
pub member_at : {A : Type 0} (d : A) (xs : List A) (k : ℕ) → k < length xs → Memᴰ (get_or xs k d) xs
member_at d [] k h = absurd (not-suc-le-zero h)
member_at d (x ∷ xs) zero h = mathlib.Core.List.Memᴰ.head refl
member_at d (x ∷ xs) (suc k) h = mathlib.Core.List.Memᴰ.tail (member_at d xs k (le_of_suc-le-suc h))

-- ---- the members of joined lists
module _ {A : Type 0} where
  pub in_flat : (xss : List (List A)) {y : A} {xs : List A} → Memᴰ xs xss → Memᴰ y xs → Memᴰ y (flat xss)
  unfolding flat
  in_flat [] m o = absurd (mathlib.Core.List.Memᴰ.not-nil m)
  in_flat (zs ∷ zss) {y} {xs} m o =
      ⊎_elim
      (λ (e : xs ≡ zs). mathlib.Core.List.Memᴰ.append_left (flat zss) (rw e at o))
      (λ (q : Memᴰ xs zss). mathlib.Core.List.Memᴰ.append_right zs (in_flat zss q o))
      (mathlib.Core.List.Memᴰ.cases_cons m)

  pub of_flat : (xss : List (List A)) {y : A} → Memᴰ y (flat xss) → (xs : List A) × Memᴰ xs xss × Memᴰ y xs
  unfolding flat
  of_flat [] m = absurd (mathlib.Core.List.Memᴰ.not-nil m)
  of_flat (zs ∷ zss) {y} m =
      ⊎_elim
      (λ (o : Memᴰ y zs). (zs, mathlib.Core.List.Memᴰ.head refl, o))
      (λ (o : Memᴰ y (flat zss)). let r = of_flat zss o in (r.0, mathlib.Core.List.Memᴰ.tail r.1, r.2))
      (mathlib.Core.List.Memᴰ.append_cases zs m)

  pub within_flat : {xss yss : List (List A)} → Within xss yss → Within (flat xss) (flat yss)
  within_flat {xss} {yss} w y m = let r = of_flat xss m in in_flat yss (w r.0 r.1) r.2

module _ {A B : Type 0} (f : A → List B) where
  pub in_flat_map : {xs : List A} {x : A} {y : B} → Memᴰ x xs → Memᴰ y (f x) → Memᴰ y (flat (map f xs))
  in_flat_map {xs} m o = in_flat (map f xs) (mathlib.Core.List.Memᴰ.map f m) o

  pub of_flat_map : (xs : List A) {y : B} → Memᴰ y (flat (map f xs)) → (x : A) × Memᴰ x xs × Memᴰ y (f x)
  of_flat_map xs {y} m =
      let r = of_flat (map f xs) m in
      let q = mathlib.Core.List.Memᴰ.of_map f xs r.1 in
      (q.0, q.1, rw q.2 r.2)

  pub within_flat_map : {xs ys : List A} → Within xs ys → Within (flat (map f xs)) (flat (map f ys))
  within_flat_map {xs} {ys} w y m = let r = of_flat_map xs m in in_flat_map (w r.0 r.1) r.2

pub within_map : {A B : Type 0} (f : A → B) {xs ys : List A} → Within xs ys → Within (map f xs) (map f ys)
within_map f {xs} {ys} w y m = let r = mathlib.Core.List.Memᴰ.of_map f xs m in rw (← r.2) (mathlib.Core.List.Memᴰ.map f (w r.0 r.1))
