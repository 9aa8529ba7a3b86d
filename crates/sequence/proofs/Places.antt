-- The places of a key.
use Prim.Native.Nat.{◌+◌, ◌<◌, ◌≤◌, suc, zero, ℕ}
use mathlib.Core.Bool.{Bool, ◌||◌, false, true, true≢false}
use mathlib.Core.List.{List, [], ◌++◌, ◌∷◌}
use mathlib.Core.Path.{◌∙◌, ◌≡◌, ap, refl, sym}
use native.Mathlib.Nat.{le_of_suc-le-suc, not-suc-le-zero}
use native.Mathlib.Omega.{arith}
use lib.Dec.{eqb}
use lib.ListN.{drop, get_or, length, take}
use borrow.Author.Tests.{eq-eqb, eqb-true}
use Rattle.lists.proofs.Flat.{tabulate_ext}
use Rattle.lists.specs.Lists.{count, has, numbers, only, pick, tabulate}
use Rattle.sequence.specs.Keys.{members_of, places}

-- those that pass a test, where it is that of the key at each place
only_places : (q : ℕ → Bool) (x : ℕ) (ks : List ℕ) (at : ℕ) → ((k : ℕ) → k < length ks → q (at + k) ≡ eqb x (get_or ks k 0))
    → only q (tabulate (length ks) (λ (k : ℕ). at + k)) ≡ places x ks at
unfolding only places tabulate
only_places q x [] at h = refl
only_places q x (k ∷ ks) at h =
    let z : at + 0 ≡ at = omega arith in
    let shift : (j : ℕ) → at + suc j ≡ suc at + j = λ j. omega arith in
    let here : q at ≡ eqb x k = rw z at (h 0 (omega arith)) in
    let rest : only q (tabulate (length ks) (λ (j : ℕ). at + suc j)) ≡ places x ks (suc at) =
    ap (only q) (tabulate_ext (length ks) (λ (j : ℕ). at + suc j) (λ (j : ℕ). suc at + j) (λ j l. shift j))
    ∙ only_places q x ks (suc at) (λ j l. ap q (sym (shift j)) ∙ h (suc j) (omega arith)) in
    rw (z, here, rest)

-- the members of a key are those that pass the test of it
pub members_only : (keys : List ℕ) (x : ℕ) → only (λ (j : ℕ). eqb x (get_or keys j 0)) (numbers (length keys)) ≡ members_of keys x
members_only keys x =
    let q : ℕ → Bool = λ (j : ℕ). eqb x (get_or keys j 0) in
    let z : (k : ℕ) → 0 + k ≡ k = λ k. omega arith in
    ap (only q) (tabulate_ext (length keys) (λ (k : ℕ). k) (λ (k : ℕ). 0 + k) (λ k l. sym (z k)))
    ∙ only_places q x keys 0 (λ k l. ap q (z k))

pub length_places : (x : ℕ) (ks : List ℕ) (at : ℕ) → length (places x ks at) ≡ count (eqb x) ks
unfolding places count
length_places x [] at = refl
length_places x (k ∷ ks) at = one (eqb x k) (length_places x ks (suc at))
  where
    one : (b : Bool) → length (places x ks (suc at)) ≡ count (eqb x) ks → length (pick b (at ∷ []) [] ++ places x ks (suc at)) ≡ pick b 1 0 + count (eqb x) ks
    one true e = omega (arith, e)
    one false e = omega (arith, e)

-- a place is in the list, and has the key
pub placed : (x : ℕ) (ks : List ℕ) (at m d : ℕ) → m < length (places x ks at)
    → (at ≤ get_or (places x ks at) m d) × (get_or (places x ks at) m d < at + length ks)
unfolding places
placed x [] at m d h = absurd (not-suc-le-zero h)
placed x (k ∷ ks) at m d h = one (eqb x k) m (λ j. placed x ks (suc at) j d) h
  where
    one : (b : Bool) (m : ℕ)
        → ((j : ℕ) → j < length (places x ks (suc at)) → (suc at ≤ get_or (places x ks (suc at)) j d) × (get_or (places x ks (suc at)) j d < suc at + length ks))
        → m < length (pick b (at ∷ []) [] ++ places x ks (suc at))
        → (at ≤ get_or (pick b (at ∷ []) [] ++ places x ks (suc at)) m d) × (get_or (pick b (at ∷ []) [] ++ places x ks (suc at)) m d < at + suc (length ks))
    one true zero f l = (omega arith, omega arith)
    one true (suc m) f l = let r = f m (le_of_suc-le-suc l) in (omega (arith, r.0), omega (arith, r.1))
    one false m f l = let r = f m l in (omega (arith, r.0), omega (arith, r.1))

-- what stands at place m: it has the key, and the first place of its key after it is place m + 1
pub after_place : (x : ℕ) (ks : List ℕ) (at m k d : ℕ) → m < length (places x ks at) → get_or (places x ks at) m d ≡ at + k
    → (get_or ks k 0 ≡ x) × (get_or (places (get_or ks k 0) (drop (suc k) ks) (at + suc k)) 0 d ≡ get_or (places x ks at) (suc m) d)
unfolding places
after_place x [] at m k d h e = absurd (not-suc-le-zero h)
after_place x (y ∷ ks) at m k d h e = one (eqb x y) refl m k (λ j i. after_place x ks (suc at) j i d) h e
  where
    rest : List ℕ
    rest = places x ks (suc at)

    further : (i : ℕ) → at + suc (suc i) ≡ suc at + suc i
    further i = omega arith

    one : (b : Bool) → eqb x y ≡ b → (m k : ℕ)
        → ((j i : ℕ) → j < length (places x ks (suc at)) → get_or (places x ks (suc at)) j d ≡ suc at + i
        → (get_or ks i 0 ≡ x) × (get_or (places (get_or ks i 0) (drop (suc i) ks) (suc at + suc i)) 0 d ≡ get_or (places x ks (suc at)) (suc j) d))
        → m < length (pick b (at ∷ []) [] ++ places x ks (suc at)) → get_or (pick b (at ∷ []) [] ++ places x ks (suc at)) m d ≡ at + k
        → (get_or (y ∷ ks) k 0 ≡ x) × (get_or (places (get_or (y ∷ ks) k 0) (drop (suc k) (y ∷ ks)) (at + suc k)) 0 d ≡ get_or (pick b (at ∷ []) [] ++ places x ks (suc at)) (suc m) d)
    one true t zero zero f l e = let o : x ≡ y = eqb-true x y t in let p : at + 1 ≡ suc at = omega arith in (sym o, rw (p, ← o))
    one true t zero (suc k) f l e = absurd (omega (arith, e))
    one true t (suc m) zero f l e = absurd (omega (arith, e, (placed x ks (suc at) m d (le_of_suc-le-suc l)).0))
    one true t (suc m) (suc k) f l e = rw (further k) (f m k (le_of_suc-le-suc l) (omega (arith, e)))
    one false t m zero f l e = absurd (omega (arith, e, (placed x ks (suc at) m d l).0))
    one false t m (suc k) f l e = rw (further k) (f m k l (omega (arith, e)))

-- a member is the first of its key exactly if the key does not stand before it
pub first_place : (x : ℕ) (ks : List ℕ) (at i d : ℕ) → i < length ks → get_or ks i 0 ≡ x → has x (take i ks) ≡ false → get_or (places x ks at) 0 d ≡ at + i
unfolding places has
first_place x [] at i d h e n = absurd (not-suc-le-zero h)
first_place x (k ∷ ks) at zero d h e n = rw (eq-eqb x k (sym e)) (omega arith)
first_place x (k ∷ ks) at (suc i) d h e n = one (eqb x k) n (first_place x ks (suc at) i d (le_of_suc-le-suc h) e)
  where
    one : (b : Bool) → (b || has x (take i ks)) ≡ false → (has x (take i ks) ≡ false → get_or (places x ks (suc at)) 0 d ≡ suc at + i)
        → get_or (pick b (at ∷ []) [] ++ places x ks (suc at)) 0 d ≡ at + suc i
    one true n f = cc
    one false n f = omega (arith, f n)

pub not_first_place : (x : ℕ) (ks : List ℕ) (at i d : ℕ) → has x (take i ks) ≡ true → get_or (places x ks at) 0 d < at + i
unfolding places has
not_first_place x ks at zero d n = absurd (true≢false (sym n))
not_first_place x [] at (suc i) d n = absurd (true≢false (sym n))
not_first_place x (k ∷ ks) at (suc i) d n = one (eqb x k) n (not_first_place x ks (suc at) i d)
  where
    one : (b : Bool) → (b || has x (take i ks)) ≡ true → (has x (take i ks) ≡ true → get_or (places x ks (suc at)) 0 d < suc at + i)
        → get_or (pick b (at ∷ []) [] ++ places x ks (suc at)) 0 d < at + suc i
    one true n f = omega arith
    one false n f = omega (arith, f n)
