-- The groups of members with one label, by their first members: each member is in exactly one, and they ascend.
use Prim.Native.Nat.{◌+◌, ◌<◌, suc, zero, ℕ}
use mathlib.Core.Bool.{Bool, ◌&&◌, and-false, false, true}
use mathlib.Core.List.Memᴰ
use mathlib.Core.List.{List, [], ◌∷◌, map}
use mathlib.Core.Logic.{⊎_elim}
use mathlib.Core.Path.{◌∙◌, ◌≡◌, ap, refl, sym}
use native.Mathlib.Omega.{arith}
use lib.Dec.{eqb}
use lib.ListN.{get_or, length}
use borrow.Author.Tests.{eq-eqb, eqb-false, eqb-true, ne_eqb}
use Rattle.groups.proofs.Members.{in_count, in_numbers, in_only, of_count, of_numbers, of_only}
use Rattle.lists.proofs.Alike.{bit_none, bit_one, count_both}
use Rattle.lists.proofs.Count.{bit, count_append, count_only}
use Rattle.lists.proofs.Laws.{cases, eqb_sym, left_true, right_true, tabulate_suc}
use Rattle.lists.specs.Lists.{count, flat, numbers, only, pick, tabulate}
use Rattle.shell.proofs.Ascending.{ascends_numbers, ascends_only}
use Rattle.shell.specs.Components.{groups_of}
use Rattle.shell.specs.Meaning.{Ascends, ◌∈◌}

-- one more number
count_next : (q : ℕ → Bool) (n : ℕ) → count q (numbers (suc n)) ≡ count q (numbers n) + bit (q n)
unfolding count
count_next q n = ap (count q) (tabulate_suc n (λ (k : ℕ). k)) ∙ count_append q (numbers n) (n ∷ []) ∙ omega arith

-- each number below n stands once
numbers_above : (n j : ℕ) → n < suc j → count (eqb j) (numbers n) ≡ 0
unfolding count tabulate
numbers_above zero j h = refl
numbers_above (suc n) j h = omega (arith, count_next (eqb j) n, numbers_above n j (omega arith), bit_none j n (ne_eqb j n (λ e. omega (arith, e))))

numbers_once : (n j : ℕ) → j < n → count (eqb j) (numbers n) ≡ 1
numbers_once zero j h = absurd (omega arith)
numbers_once (suc n) j h =
    ⊎_elim
    (λ (e : eqb j n ≡ true). omega (arith, count_next (eqb j) n, numbers_above n j (omega (arith, eqb-true j n e)), bit_one j n (eqb-true j n e)))
    (λ (e : eqb j n ≡ false). let ne = eqb-false j n e in omega (arith, count_next (eqb j) n, numbers_once n j (omega arith), bit_none j n e))
    (cases (eqb j n))

module _ (label : ℕ → ℕ) where
  abbrev pub same : ℕ → ℕ → Bool
  same i j = eqb (label i) (label j)

  -- no member before i has its label
  abbrev pub is_first : ℕ → Bool
  is_first i = eqb 0 (count (same i) (numbers i))

  -- the first member of the label of j, among those before n, where there is one
  abbrev firsts : ℕ → ℕ → ℕ
  firsts j n = count (λ (i : ℕ). is_first i && same i j) (numbers n)

  abbrev some : ℕ → ℕ
  some k = pick (eqb 0 k) 0 1

  some_one : (k : ℕ) → 0 < k → some k ≡ 1
  some_one k h = rw (ne_eqb 0 k (λ e. omega (arith, e)))

  first_next : (j n : ℕ) → firsts j n ≡ some (count (same j) (numbers n)) → firsts j (suc n) ≡ some (count (same j) (numbers (suc n)))
  first_next j n h =
      let q : ℕ → Bool = λ (i : ℕ). is_first i && same i j in
      let before = count (same j) (numbers n) in
      ⊎_elim
      (λ (e : same n j ≡ true).
      let first : is_first n ≡ eqb 0 before = ap (λ (x : ℕ). eqb 0 (count (λ (i : ℕ). eqb x (label i)) (numbers n))) (eqb-true (label n) (label j) e) in
      let here : bit (same j n) ≡ 1 = rw (eqb_sym (label j) (label n) ∙ e) in
      let after : some (count (same j) (numbers (suc n))) ≡ 1 = some_one (count (same j) (numbers (suc n))) (omega (arith, count_next (same j) n, here)) in
      ⊎_elim
      (λ (t : eqb 0 before ≡ true).
      let a : bit (q n) ≡ 1 = rw (first ∙ t, e) in
      let b : some before ≡ 0 = rw t in
      omega (arith, count_next q n, h, a, b, after))
      (λ (t : eqb 0 before ≡ false).
      let a : bit (q n) ≡ 0 = rw (first ∙ t) in
      let b : some before ≡ 1 = rw t in
      omega (arith, count_next q n, h, a, b, after))
      (cases (eqb 0 before)))
      (λ (e : same n j ≡ false).
      let a : bit (q n) ≡ 0 = rw (e, and-false (is_first n)) in
      let here : bit (same j n) ≡ 0 = rw (eqb_sym (label j) (label n) ∙ e) in
      let more : count (same j) (numbers (suc n)) ≡ before = omega (arith, count_next (same j) n, here) in
      omega (arith, count_next q n, a, h) ∙ sym (ap some more))
      (cases (same n j))

  one_first : (j n : ℕ) → firsts j n ≡ some (count (same j) (numbers n))
  unfolding count tabulate
  one_first j zero = refl
  one_first j (suc n) = first_next j n (one_first j n)

  module _ (n : ℕ) where
    abbrev pub group_at : ℕ → List ℕ
    group_at i = only (same i) (numbers n)

    own : (i : ℕ) → i < n → i ∈ group_at i
    own i h = in_only (same i) (numbers n) i (in_numbers n i h) (eq-eqb (label i) (label i) refl)

    first_one : (j : ℕ) → j < n → firsts j n ≡ 1
    first_one j h = one_first j n ∙ some_one (count (same j) (numbers n)) (in_count (same j) (numbers n) j (in_numbers n j h) (eq-eqb (label j) (label j) refl))

    -- a group is that of its first member
    pub of_groups : (g : List ℕ) → g ∈ groups_of n same → (i : ℕ) × (i < n) × (is_first i ≡ true) × (group_at i ≡ g)
    unfolding groups_of
    of_groups g m =
        let r = Memᴰ.of_map group_at (only is_first (numbers n)) m in
        let s = of_only is_first (numbers n) r.0 r.1 in
        (r.0, of_numbers n r.0 s.0, s.1, r.2)

    -- the group of a member
    pub group_of : (j : ℕ) → j < n → (i : ℕ) × (group_at i ∈ groups_of n same) × (label i ≡ label j)
    unfolding groups_of
    group_of j h =
        let q : ℕ → Bool = λ (i : ℕ). is_first i && same i j in
        let r = of_count q (numbers n) (omega (arith, first_one j h)) in
        let i = r.0 in (
          i,
          Memᴰ.map group_at (in_only is_first (numbers n) i r.1 (left_true (is_first i) (same i j) r.2)),
          eqb-true (label i) (label j) (right_true (is_first i) (same i j) r.2),
        )

    -- each member stands once
    counted : (j : ℕ) → j < n → (is : List ℕ) → count (eqb j) (flat (map group_at is)) ≡ count (λ (i : ℕ). same i j) is
    unfolding count flat
    counted j h [] = refl
    counted j h (i ∷ is) =
        count_append (eqb j) (group_at i) (flat (map group_at is))
        ∙ rw (count_only (eqb j) (same i) (numbers n), count_both (same i) j (numbers n), numbers_once n j h, counted j h is)

    pub once_in : (j : ℕ) → j < n → count (eqb j) (flat (groups_of n same)) ≡ 1
    unfolding groups_of
    once_in j h = counted j h (only is_first (numbers n)) ∙ count_only (λ (i : ℕ). same i j) is_first (numbers n) ∙ first_one j h

    -- a group begins with its first member
    pub head_is : (i : ℕ) → i < n → is_first i ≡ true → get_or (group_at i) 0 0 ≡ i
    head_is i h f = go (group_at i) (ascends_only (λ (k : ℕ). k) (same i) (numbers n) (ascends_numbers n)) (own i h) (λ x m. (of_only (same i) (numbers n) x m).1)
      where
        go : (xs : List ℕ) → Ascends (λ (k : ℕ). k) xs → i ∈ xs → ((x : ℕ) → x ∈ xs → same i x ≡ true) → get_or xs 0 0 ≡ i
        go [] a m s = absurd (Memᴰ.not-nil m)
        go (x ∷ xs) a m s =
            ⊎_elim
            (λ (e : i ≡ x). sym e)
            (λ (o : i ∈ xs).
            let l : x < i = a.0 i o in
            let z : 0 ≡ count (same i) (numbers i) = eqb-true 0 (count (same i) (numbers i)) f in
            absurd (omega (arith, z, in_count (same i) (numbers i) x (in_numbers i x l) (s x (Memᴰ.head refl)))))
            (Memᴰ.cases_cons m)

    pub group_some : (i : ℕ) → i < n → 0 < length (group_at i)
    group_some i h = go (group_at i) (own i h)
      where
        go : (xs : List ℕ) → i ∈ xs → 0 < length xs
        go [] m = absurd (Memᴰ.not-nil m)
        go (x ∷ xs) m = omega arith
