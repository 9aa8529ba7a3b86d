-- Laws of `only` and `once`: the members, none of them twice, and one more at the end.
use Prim.Native.Nat.{◌≤◌, ℕ}
use mathlib.Core.Bool.{Bool, ◌&&◌, ◌||◌, and-false, false, not, true}
use mathlib.Core.List.{List, [], ◌++◌, ◌∷◌}
use mathlib.Core.Logic.{⊎_elim}
use mathlib.Core.Path.{◌∙◌, ◌≡◌, refl, sym}
use native.Mathlib.Omega.{arith}
use lib.Dec.{eqb}
use lib.ListN.{length}
use borrow.Author.Tests.{eq-eqb, eqb-true}
use Rattle.lists.proofs.Parts.{length_only, only_append}
use Rattle.lists.proofs.Alike.{count_no_dup, no_dup_count}
use Rattle.lists.proofs.Count.{All, all_only, count_only_le}
use Rattle.lists.proofs.Laws.{cases, eqb_sym, has_append}
use Rattle.lists.specs.Lists.{has, no_dup, once, only, pick, unless}

-- one number that passes the test, or not
has_here : (y : ℕ) (b : Bool) → has y (pick b (y ∷ []) []) ≡ (b && true)
unfolding has
has_here y true = rw (eq-eqb y y refl)
has_here y false = refl

has_past : (x y : ℕ) (b : Bool) → eqb x y ≡ false → has x (pick b (y ∷ []) []) ≡ false
unfolding has
has_past x y true e = rw e
has_past x y false e = refl

has_picked : (x y : ℕ) (q : ℕ → Bool) → has x (pick (q y) (y ∷ []) []) ≡ (q x && eqb x y)
has_picked x y q =
    ⊎_elim
    (λ (e : eqb x y ≡ true). rw (e, eqb-true x y e) (has_here y (q y)))
    (λ (e : eqb x y ≡ false). rw (e, and-false (q x)) (has_past x y (q y) e))
    (cases (eqb x y))

both : (a b c : Bool) → ((a && b) || (a && c)) ≡ (a && (b || c))
both true b c = refl
both false b c = refl

-- the members are those that pass the test
pub has_only : (x : ℕ) (q : ℕ → Bool) (xs : List ℕ) → has x (only q xs) ≡ (q x && has x xs)
unfolding only has
has_only x q [] = sym (and-false (q x))
has_only x q (y ∷ ys) = rw (has_append x (pick (q y) (y ∷ []) []) (only q ys), has_picked x y q, has_only x q ys) (both (q x) (eqb x y) (has x ys))

or_else : (a b : Bool) → (a || (not a && b)) ≡ (a || b)
or_else true b = refl
or_else false b = refl

-- each number of the list is a member, and no other
pub has_once : (x : ℕ) (xs : List ℕ) → has x (once xs) ≡ has x xs
unfolding once has
has_once x [] = refl
has_once x (p ∷ ps) = rw (has_only x (λ (q : ℕ). not (eqb p q)) (once ps), has_once x ps, eqb_sym p x) (or_else (eqb x p) (has x ps))

pub all_once : (P : ℕ → Type 0) (xs : List ℕ) → All P xs → All P (once xs)
unfolding once
all_once P [] h = tt
all_once P (p ∷ ps) h = (h.0, all_only P (λ (q : ℕ). not (eqb p q)) (once ps) (all_once P ps h.1))

pub no_dup_only : (q : ℕ → Bool) (xs : List ℕ) → no_dup xs ≡ true → no_dup (only q xs) ≡ true
no_dup_only q xs h = count_no_dup (only q xs) (λ x. omega (arith, count_only_le (eqb x) q xs, no_dup_count xs h x))

-- no member stands in it twice
pub no_dup_once : (xs : List ℕ) → no_dup (once xs) ≡ true
unfolding once no_dup
no_dup_once [] = refl
no_dup_once (p ∷ ps) =
    rw (has_only p (λ (q : ℕ). not (eqb p q)) (once ps), eq-eqb p p refl, no_dup_only (λ (q : ℕ). not (eqb p q)) (once ps) (no_dup_once ps))

pub length_once : (xs : List ℕ) → length (once xs) ≤ length xs
unfolding once
length_once [] = omega arith
length_once (p ∷ ps) = omega (arith, length_only (λ (q : ℕ). not (eqb p q)) (once ps), length_once ps)

-- the number at the end, unless it is p or stood before
last_one : (p y : ℕ) (b : Bool) → only (λ (q : ℕ). not (eqb p q)) (unless b y) ≡ unless (eqb y p || b) y
unfolding only
last_one p y b =
    ⊎_elim
    (λ (e : eqb y p ≡ true). rw e (same b (eqb_sym p y ∙ e)))
    (λ (e : eqb y p ≡ false). rw e (other b (eqb_sym p y ∙ e)))
    (cases (eqb y p))
  where
    same : (c : Bool) → eqb p y ≡ true → only (λ (q : ℕ). not (eqb p q)) (unless c y) ≡ []
    same true e = refl
    same false e = rw e

    other : (c : Bool) → eqb p y ≡ false → only (λ (q : ℕ). not (eqb p q)) (unless c y) ≡ unless c y
    other true e = refl
    other false e = rw e

-- one number more
pub once_snoc : (xs : List ℕ) (y : ℕ) → once (xs ++ (y ∷ [])) ≡ once xs ++ unless (has y xs) y
unfolding once has only
once_snoc [] y = refl
once_snoc (p ∷ ps) y =
    rw (once_snoc ps y, only_append (λ (q : ℕ). not (eqb p q)) (once ps) (unless (has y ps) y), last_one p y (has y ps))
