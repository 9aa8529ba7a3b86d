-- The members of lists that are picked, numbered or linked of others.
use Prim.Native.Nat.{◌+◌, ◌<◌, suc, zero, ℕ}
use mathlib.Core.Bool.{Bool, ◌&&◌, ◌||◌, false, not, true, true≢false}
use mathlib.Core.List.{List, Memᴰ, [], ◌∷◌, map}
use mathlib.Core.Logic.{⊎_elim}
use mathlib.Core.Path.{◌∙◌, ◌≡◌, ap, refl, sym}
use native.Mathlib.Nat.{le_of_suc-le-suc, not-suc-le-zero}
use native.Mathlib.Omega.{arith}
use lib.Dec.{eqb}
use lib.ListN.{get_or, length}
use borrow.Author.Tests.{eq-eqb, eqb-true}
use Rattle.groups.proofs.Alike.{Within, member_at}
use Rattle.groups.proofs.Meaning.{of_each}
use Rattle.groups.specs.Groups.{Link, link, links}
use Rattle.lists.proofs.Count.{All}
use Rattle.lists.proofs.Flat.{get_d_tabulate}
use Rattle.lists.proofs.Laws.{cases, length_tabulate}
use Rattle.lists.specs.Lists.{count, disjoint, has, numbers, once, only, pick, tabulate}

module _ {A : Type 0} where
  -- what holds of all holds of each member
  pub all_member : (P : A → Type 0) (xs : List A) → All P xs → (x : A) → Memᴰ x xs → P x
  all_member P [] h x m = absurd (mathlib.Core.List.Memᴰ.not-nil m)
  all_member P (y ∷ ys) h x m =
      ⊎_elim (λ (e : x ≡ y). rw e h.0) (λ (o : Memᴰ x ys). all_member P ys h.1 x o) (mathlib.Core.List.Memᴰ.cases_cons m)

  -- a member has a place
  pub place_of : (d : A) (xs : List A) (x : A) → Memᴰ x xs → (k : ℕ) × (k < length xs) × (get_or xs k d ≡ x)
  place_of d [] x m = absurd (mathlib.Core.List.Memᴰ.not-nil m)
  place_of d (y ∷ ys) x m =
      ⊎_elim
      (λ (e : x ≡ y). (0, omega arith, sym e))
      (λ (o : Memᴰ x ys). let r = place_of d ys x o in (suc r.0, omega (arith, r.1), r.2))
      (mathlib.Core.List.Memᴰ.cases_cons m)

  -- those that pass a test
  pub of_only : (q : A → Bool) (xs : List A) (x : A) → Memᴰ x (only q xs) → Memᴰ x xs × (q x ≡ true)
  unfolding only
  of_only q [] x m = absurd (mathlib.Core.List.Memᴰ.not-nil m)
  of_only q (y ∷ ys) x m =
      ⊎_elim
      (λ (o : Memᴰ x (pick (q y) (y ∷ []) [])). one (q y) refl o)
      (λ (o : Memᴰ x (only q ys)). let r = of_only q ys x o in (mathlib.Core.List.Memᴰ.tail r.0, r.1))
      (mathlib.Core.List.Memᴰ.append_cases (pick (q y) (y ∷ []) []) m)
    where
      one : (b : Bool) → q y ≡ b → Memᴰ x (pick b (y ∷ []) []) → Memᴰ x (y ∷ ys) × (q x ≡ true)
      one true t o =
          ⊎_elim (λ (e : x ≡ y). (mathlib.Core.List.Memᴰ.head e, ap q e ∙ t)) (λ (n : Memᴰ x []). absurd (mathlib.Core.List.Memᴰ.not-nil n)) (mathlib.Core.List.Memᴰ.cases_cons o)
      one false t o = absurd (mathlib.Core.List.Memᴰ.not-nil o)

  pub in_only : (q : A → Bool) (xs : List A) (x : A) → Memᴰ x xs → q x ≡ true → Memᴰ x (only q xs)
  unfolding only
  in_only q [] x m e = absurd (mathlib.Core.List.Memᴰ.not-nil m)
  in_only q (y ∷ ys) x m e =
      ⊎_elim
      (λ (o : x ≡ y). let t : q y ≡ true = ap q (sym o) ∙ e in rw t (mathlib.Core.List.Memᴰ.head o))
      (λ (o : Memᴰ x ys). mathlib.Core.List.Memᴰ.append_right (pick (q y) (y ∷ []) []) (in_only q ys x o e))
      (mathlib.Core.List.Memᴰ.cases_cons m)

  -- where some pass a test there is one
  pub of_count : (q : A → Bool) (xs : List A) → 0 < count q xs → (x : A) × Memᴰ x xs × (q x ≡ true)
  unfolding count
  of_count q [] h = absurd (omega arith)
  of_count q (y ∷ ys) h =
      ⊎_elim
      (λ (t : q y ≡ true). (y, mathlib.Core.List.Memᴰ.head refl, t))
      (λ (t : q y ≡ false).
      let l : 0 < 0 + count q ys = rw t at h in
      let r = of_count q ys (omega (arith, l)) in (r.0, mathlib.Core.List.Memᴰ.tail r.1, r.2))
      (cases (q y))

  pub in_count : (q : A → Bool) (xs : List A) (x : A) → Memᴰ x xs → q x ≡ true → 0 < count q xs
  unfolding count
  in_count q [] x m t = absurd (mathlib.Core.List.Memᴰ.not-nil m)
  in_count q (y ∷ ys) x m t =
      ⊎_elim
      (λ (e : x ≡ y). let z : q y ≡ true = ap q (sym e) ∙ t in rw z (omega arith))
      (λ (o : Memᴰ x ys). omega (arith, in_count q ys x o t))
      (mathlib.Core.List.Memᴰ.cases_cons m)

  -- those of a table
  pub of_table : (P : A → Type 0) (n : ℕ) (f : ℕ → A) → ((k : ℕ) → k < n → P (f k)) → (x : A) → Memᴰ x (tabulate n f) → P x
  of_table P n f h x m =
      of_each P (f 0) (tabulate n f)
      (λ k l. let i : k < n = omega (arith, l, length_tabulate n f) in rw (get_d_tabulate n f k (f 0) i) (h k i))
      x m

-- ---- numbers
pub in_numbers : (n i : ℕ) → i < n → Memᴰ i (numbers n)
in_numbers n i h =
    let e : get_or (numbers n) i 0 ≡ i = get_d_tabulate n (λ (k : ℕ). k) i 0 h in
    rw e at (member_at 0 (numbers n) i (omega (arith, length_tabulate n (λ (k : ℕ). k))))

pub of_numbers : (n i : ℕ) → Memᴰ i (numbers n) → i < n
of_numbers n i m = of_table (λ (k : ℕ). k < n) n (λ (k : ℕ). k) (λ k l. l) i m

pub has_member : (x : ℕ) (xs : List ℕ) → has x xs ≡ true → Memᴰ x xs
unfolding has
has_member x [] e = absurd (true≢false (sym e))
has_member x (y ∷ ys) e = one (eqb x y) refl e (has_member x ys)
  where
    one : (b : Bool) → eqb x y ≡ b → (b || has x ys) ≡ true → (has x ys ≡ true → Memᴰ x ys) → Memᴰ x (y ∷ ys)
    one true t e f = mathlib.Core.List.Memᴰ.head (eqb-true x y t)
    one false t e f = mathlib.Core.List.Memᴰ.tail (f e)

pub member_has : (x : ℕ) (xs : List ℕ) → Memᴰ x xs → has x xs ≡ true
unfolding has
member_has x [] m = absurd (mathlib.Core.List.Memᴰ.not-nil m)
member_has x (y ∷ ys) m =
    ⊎_elim
    (λ (e : x ≡ y). ap (λ (b : Bool). b || has x ys) (eq-eqb x y e))
    (λ (o : Memᴰ x ys). later (eqb x y) (member_has x ys o))
    (mathlib.Core.List.Memᴰ.cases_cons m)
  where
    later : (b : Bool) → has x ys ≡ true → (b || has x ys) ≡ true
    later true e = refl
    later false e = e

-- lists that are not disjoint have a member in common
pub shared : (xs ys : List ℕ) → not (disjoint xs ys) ≡ true → (x : ℕ) × Memᴰ x xs × Memᴰ x ys
unfolding disjoint
shared [] ys e = absurd (true≢false (sym e))
shared (x ∷ xs) ys e = one (has x ys) refl e (shared xs ys)
  where
    one : (b : Bool) → has x ys ≡ b → not (not b && disjoint xs ys) ≡ true → (not (disjoint xs ys) ≡ true → (z : ℕ) × Memᴰ z xs × Memᴰ z ys)
        → (z : ℕ) × Memᴰ z (x ∷ xs) × Memᴰ z ys
    one true t e f = (x, mathlib.Core.List.Memᴰ.head refl, has_member x ys t)
    one false t e f = let r = f e in (r.0, mathlib.Core.List.Memᴰ.tail r.1, r.2)

pub share : (xs ys : List ℕ) (x : ℕ) → Memᴰ x xs → Memᴰ x ys → not (disjoint xs ys) ≡ true
unfolding disjoint
share [] ys x m o = absurd (mathlib.Core.List.Memᴰ.not-nil m)
share (z ∷ xs) ys x m o =
    ⊎_elim
    (λ (e : x ≡ z). ap (λ (b : Bool). not (not b && disjoint xs ys)) (ap (λ (w : ℕ). has w ys) (sym e) ∙ member_has x ys o))
    (λ (q : Memᴰ x xs). later (has z ys) (share xs ys x q o))
    (mathlib.Core.List.Memᴰ.cases_cons m)
  where
    later : (b : Bool) → not (disjoint xs ys) ≡ true → not (not b && disjoint xs ys) ≡ true
    later true e = refl
    later false e = e

-- each number once
pub of_once : (xs : List ℕ) → Within (once xs) xs
unfolding once
of_once [] x m = m
of_once (p ∷ ps) x m =
    ⊎_elim
    (λ (e : x ≡ p). mathlib.Core.List.Memᴰ.head e)
    (λ o. mathlib.Core.List.Memᴰ.tail (of_once ps x (of_only (λ (q : ℕ). not (eqb p q)) (once ps) x o).0))
    (mathlib.Core.List.Memᴰ.cases_cons m)

pub in_once : (xs : List ℕ) → Within xs (once xs)
unfolding once
in_once [] x m = m
in_once (p ∷ ps) x m =
    ⊎_elim
    (λ (e : x ≡ p). mathlib.Core.List.Memᴰ.head e)
    (λ o. ⊎_elim
    (λ (t : eqb p x ≡ true). mathlib.Core.List.Memᴰ.head (sym (eqb-true p x t)))
    (λ (t : eqb p x ≡ false). let n : not (eqb p x) ≡ true = rw t in mathlib.Core.List.Memᴰ.tail (in_only (λ (q : ℕ). not (eqb p q)) (once ps) x (in_once ps x o) n))
    (cases (eqb p x)))
    (mathlib.Core.List.Memᴰ.cases_cons m)

-- ---- the links of two lists
pub links_map : (f g : ℕ → ℕ) (xs : List ℕ) → links (map f xs) (map g xs) ≡ map (λ (x : ℕ). link (f x) (g x)) xs
unfolding links
links_map f g [] = refl
links_map f g (x ∷ xs) = ap (λ (L : List Link). link (f x) (g x) ∷ L) (links_map f g xs)

-- place by place
pub of_links : (xs ys : List ℕ) (l : Link) → Memᴰ l (links xs ys)
    → (k : ℕ) × (k < length xs) × (k < length ys) × (l.a ≡ get_or xs k 0) × (l.b ≡ get_or ys k 0)
unfolding links
of_links [] ys l m = absurd (mathlib.Core.List.Memᴰ.not-nil m)
of_links (x ∷ xs) [] l m = absurd (mathlib.Core.List.Memᴰ.not-nil m)
of_links (x ∷ xs) (y ∷ ys) l m =
    ⊎_elim
    (λ (e : l ≡ link x y). (0, omega arith, omega arith, ap (λ (k : Link). k.a) e, ap (λ (k : Link). k.b) e))
    (λ (o : Memᴰ l (links xs ys)). let r = of_links xs ys l o in (suc r.0, omega (arith, r.1), omega (arith, r.2), r.3, r.4))
    (mathlib.Core.List.Memᴰ.cases_cons m)

pub in_links : (xs ys : List ℕ) (k : ℕ) → k < length xs → k < length ys → Memᴰ (link (get_or xs k 0) (get_or ys k 0)) (links xs ys)
unfolding links
in_links [] ys k h i = absurd (not-suc-le-zero h)
in_links (x ∷ xs) [] k h i = absurd (not-suc-le-zero i)
in_links (x ∷ xs) (y ∷ ys) zero h i = mathlib.Core.List.Memᴰ.head refl
in_links (x ∷ xs) (y ∷ ys) (suc k) h i = mathlib.Core.List.Memᴰ.tail (in_links xs ys k (le_of_suc-le-suc h) (le_of_suc-le-suc i))
