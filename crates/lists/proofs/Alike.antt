-- Laws of counting the places of a number in a list.
use Prim.Native.Nat.{◌+◌, ◌<◌, ◌≤◌, ℕ}
use mathlib.Core.Bool.{Bool, ◌&&◌, and-false, false, not, true}
use mathlib.Core.List.{List, [], ◌∷◌}
use mathlib.Core.Logic.{⊎_elim}
use mathlib.Core.Path.{◌≡◌, ap, refl, sym}
use native.Mathlib.Omega.{arith}
use lib.Dec.{eqb}
use borrow.Author.Tests.{eq-eqb, eqb-true, not-true}
use Rattle.lists.proofs.Count.{bit}
use Rattle.lists.proofs.Laws.{cases, left_true, right_true}
use Rattle.lists.specs.Lists.{count, disjoint, has, no_dup, pick}

pub bit_one : (a b : ℕ) → a ≡ b → bit (eqb a b) ≡ 1
bit_one a b e = rw (eq-eqb a b e)

pub bit_none : (a b : ℕ) → eqb a b ≡ false → bit (eqb a b) ≡ 0
bit_none a b e = rw e

pub bit_true : (b : Bool) → 0 < bit b → b ≡ true
bit_true true h = refl
bit_true false h = absurd (omega arith)

-- a list without the first place of x
less : ℕ → List ℕ → List ℕ
less x [] = []
less x (y ∷ ys) = pick (eqb x y) ys (y ∷ less x ys)

less_one : (x : ℕ) (ys : List ℕ) → 0 < count (eqb x) ys → (q : ℕ → Bool) → count q ys ≡ bit (q x) + count q (less x ys)
unfolding count less
less_one x [] h q = absurd (omega arith)
less_one x (y ∷ ys) h q =
    ⊎_elim
    (λ (e : eqb x y ≡ true). rw (e, eqb-true x y e))
    (λ (e : eqb x y ≡ false).
    rw e (omega (arith, less_one x ys (omega (arith, bit_none x y e)) q)))
    (cases (eqb x y))

-- lists with every number as often count the same for every test
pub count_alike : (xs ys : List ℕ) → ((x : ℕ) → count (eqb x) xs ≡ count (eqb x) ys) → (q : ℕ → Bool) → count q xs ≡ count q ys
unfolding count
count_alike [] [] h q = refl
count_alike [] (y ∷ ys) h q = absurd (omega (arith, h y, bit_one y y refl))
count_alike (x ∷ xs) ys h q =
    let some : 0 < count (eqb x) ys = omega (arith, h x, bit_one x x refl) in
    let rest : (z : ℕ) → count (eqb z) xs ≡ count (eqb z) (less x ys) = λ z. omega (arith, h z, less_one x ys some (eqb z)) in
    omega (arith, less_one x ys some q, count_alike xs (less x ys) rest q)

-- where x passes the test, so do all its places
pub count_passes : (q : ℕ → Bool) (x : ℕ) → q x ≡ true → (xs : List ℕ) → count (eqb x) xs ≤ count q xs
unfolding count
count_passes q x h [] = omega arith
count_passes q x h (y ∷ ys) =
    ⊎_elim
    (λ (e : eqb x y ≡ true). let p : q y ≡ true = rw (eqb-true x y e) at h in rw (e, p) (omega (arith, count_passes q x h ys)))
    (λ (e : eqb x y ≡ false). rw e (omega (arith, count_passes q x h ys)))
    (cases (eqb x y))

-- all its places pass, or none
pub count_both : (q : ℕ → Bool) (x : ℕ) (xs : List ℕ) → count (λ (y : ℕ). q y && eqb x y) xs ≡ pick (q x) (count (eqb x) xs) 0
unfolding count
count_both q x [] = none (q x)
  where
    none : (b : Bool) → ◌≡◌ {A = ℕ} 0 (pick b 0 0)
    none true = refl
    none false = refl
count_both q x (y ∷ ys) =
    ⊎_elim
    (λ (e : eqb x y ≡ true).
    let z : y ≡ x = sym (eqb-true x y e) in
    rw (e, z, count_both q x ys) (here (q x)))
    (λ (e : eqb x y ≡ false). rw (e, and-false (q y), count_both q x ys) (past (q x)))
    (cases (eqb x y))
  where
    here : (b : Bool) → bit (b && true) + pick b (count (eqb x) ys) 0 ≡ pick b (1 + count (eqb x) ys) 0
    here true = refl
    here false = refl

    past : (b : Bool) → 0 + pick b (count (eqb x) ys) 0 ≡ pick b (0 + count (eqb x) ys) 0
    past true = refl
    past false = refl

pub has_count : (x : ℕ) (xs : List ℕ) → count (eqb x) xs ≤ 1 → count (eqb x) xs ≡ pick (has x xs) 1 0
unfolding count has
has_count x [] h = refl
has_count x (y ∷ ys) h =
    ⊎_elim
    (λ (e : eqb x y ≡ true). rw e (omega (arith, bit_one x y (eqb-true x y e))))
    (λ (e : eqb x y ≡ false). rw e (omega (arith, has_count x ys (omega (arith, bit_none x y e)))))
    (cases (eqb x y))

pub has_none : (x : ℕ) (xs : List ℕ) → count (eqb x) xs ≡ 0 → has x xs ≡ false
unfolding count has
has_none x [] h = refl
has_none x (y ∷ ys) h =
    ⊎_elim
    (λ (e : eqb x y ≡ true). absurd (omega (arith, bit_one x y (eqb-true x y e))))
    (λ (e : eqb x y ≡ false). rw e (has_none x ys (omega arith)))
    (cases (eqb x y))

pub none_has : (x : ℕ) (xs : List ℕ) → has x xs ≡ false → count (eqb x) xs ≡ 0
unfolding count has
none_has x [] h = refl
none_has x (y ∷ ys) h =
    ⊎_elim
    (λ (e : eqb x y ≡ true). let f : true ≡ false = rw e at h in cc)
    (λ (e : eqb x y ≡ false). let f : has x ys ≡ false = rw e at h in omega (arith, none_has x ys f, bit_none x y e))
    (cases (eqb x y))

pub no_dup_count : (xs : List ℕ) → no_dup xs ≡ true → (x : ℕ) → count (eqb x) xs ≤ 1
unfolding count no_dup
no_dup_count [] h x = omega arith
no_dup_count (y ∷ ys) h x =
    let none = none_has y ys (not-true (has y ys) (left_true (not (has y ys)) (no_dup ys) h)) in
    ⊎_elim
    (λ (e : eqb x y ≡ true). rw e (omega (arith, none, ap (λ (z : ℕ). count (eqb z) ys) (eqb-true x y e))))
    (λ (e : eqb x y ≡ false). rw e (omega (arith, no_dup_count ys (right_true (not (has y ys)) (no_dup ys) h) x)))
    (cases (eqb x y))

pub count_no_dup : (xs : List ℕ) → ((x : ℕ) → count (eqb x) xs ≤ 1) → no_dup xs ≡ true
unfolding count no_dup
count_no_dup [] h = refl
count_no_dup (y ∷ ys) h = rw (has_none y ys (omega (arith, h y, bit_one y y refl))) (count_no_dup ys (λ x. omega (arith, h x)))

pub count_disjoint : (xs ys : List ℕ) → ((x : ℕ) → count (eqb x) xs + count (eqb x) ys ≤ 1) → disjoint xs ys ≡ true
unfolding count disjoint
count_disjoint [] ys h = refl
count_disjoint (x ∷ xs) ys h = rw (has_none x ys (omega (arith, h x, bit_one x x refl))) (count_disjoint xs ys (λ z. omega (arith, h z)))
