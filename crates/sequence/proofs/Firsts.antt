-- The groups of equal keys, by their first members: each member is in exactly one.
use Prim.Native.Nat.{◌+◌, ◌<◌, ◌≤◌, suc, zero, ℕ}
use mathlib.Core.Bool.{Bool, ◌&&◌, ◌||◌, false, not, or-false, or-true, true}
use mathlib.Core.List.{List, [], ◌++◌, ◌∷◌, append-nil, map, map-append}
use mathlib.Core.Logic.{⊎_elim}
use mathlib.Core.Path.{◌∙◌, ◌≡◌, ap, refl, sym}
use native.Mathlib.Nat.{le_of_suc-le-suc, not-suc-le-zero}
use native.Mathlib.Omega.{arith}
use lib.Dec.{eqb}
use lib.ListN.{get_or, length, length-append, length-map, take}
use lib.Seq.{get_or-take, length-take-le, take-length, take-suc}
use borrow.Author.Tests.{eq-eqb, eqb-true, ne_eqb}
use Rattle.lists.proofs.Parts.{length_only, only_same}
use Rattle.lists.proofs.Count.{all_each, count_halves, count_length, count_map, count_none}
use Rattle.lists.proofs.Flat.{tabulate_of}
use Rattle.lists.proofs.Laws.{cases, eqb_sym, flat_append, has_append, length_tabulate, map_tabulate, tabulate_suc}
use Rattle.lists.specs.Lists.{count, flat, has, numbers, only, pick, tabulate}
use Rattle.sequence.proofs.Only.{all_tabulate, only_snoc}
use Rattle.sequence.proofs.Places.{length_places, members_only}
use Rattle.sequence.specs.Keys.{members_of, same_key}
use Rattle.shell.specs.Components.{groups_of}

-- no member before i has its key
abbrev pub is_first : List ℕ → ℕ → Bool
is_first keys i = not (has (get_or keys i 0) (take i keys))

-- the group of member i
abbrev pub group_at : List ℕ → ℕ → List ℕ
group_at keys i = members_of keys (get_or keys i 0)

-- the groups that begin before member i
abbrev pub up_to : List ℕ → ℕ → List (List ℕ)
up_to keys i = map (group_at keys) (only (is_first keys) (numbers i))

count_has : (x : ℕ) (xs : List ℕ) → eqb 0 (count (eqb x) xs) ≡ not (has x xs)
unfolding count has
count_has x [] = refl
count_has x (y ∷ ys) = one (eqb x y) (count_has x ys)
  where
    one : (b : Bool) → eqb 0 (count (eqb x) ys) ≡ not (has x ys) → eqb 0 (pick b 1 0 + count (eqb x) ys) ≡ not (b || has x ys)
    one true e = ne_eqb 0 (1 + count (eqb x) ys) (λ o. omega (arith, o))
    one false e = let z : 0 + count (eqb x) ys ≡ count (eqb x) ys = omega arith in rw z e

module _ (keys : List ℕ) where
  first_test : (i : ℕ) → i ≤ length keys → eqb 0 (count (same_key keys i) (numbers i)) ≡ is_first keys i
  first_test i h =
      let x = get_or keys i 0 in
      let key : ℕ → ℕ = λ (j : ℕ). get_or keys j 0 in
      let long : length (take i keys) ≡ i = length-take-le i keys h in
      let before : map key (numbers i) ≡ take i keys =
      map_tabulate key i (λ (k : ℕ). k)
      ∙ rw long at (tabulate_of (take i keys) 0 key (λ k l. sym (get_or-take i keys k 0 (omega (arith, long))))) in
      ap (eqb 0) (sym (count_map (eqb x) key (numbers i)) ∙ ap (count (eqb x)) before) ∙ count_has x (take i keys)

  pub groups_are : groups_of (length keys) (same_key keys) ≡ up_to keys (length keys)
  unfolding groups_of
  groups_are =
      let n = length keys in
      let first : ℕ → Bool = λ (i : ℕ). eqb 0 (count (same_key keys i) (numbers i)) in
      (λ t. map (λ (i : ℕ). members_only keys (get_or keys i 0) t) (only first (numbers n)))
      ∙ ap (map (group_at keys))
      (only_same first (is_first keys) (numbers n)
      (all_tabulate (λ (i : ℕ). first i ≡ is_first keys i) n (λ (k : ℕ). k) (λ k l. first_test k (omega arith))))

  module _ (i : ℕ) where
    pub up_first : is_first keys i ≡ true → up_to keys (suc i) ≡ up_to keys i ++ (group_at keys i ∷ [])
    up_first e =
        ap (λ (r : List ℕ). map (group_at keys) (only (is_first keys) r)) (tabulate_suc i (λ (k : ℕ). k))
        ∙ ap (map (group_at keys)) (only_snoc (is_first keys) (numbers i) i true e) ∙ map-append (group_at keys) (only (is_first keys) (numbers i)) (i ∷ [])

    pub up_other : is_first keys i ≡ false → up_to keys (suc i) ≡ up_to keys i
    up_other e =
        ap (λ (r : List ℕ). map (group_at keys) (only (is_first keys) r)) (tabulate_suc i (λ (k : ℕ). k))
        ∙ ap (map (group_at keys)) (only_snoc (is_first keys) (numbers i) i false e ∙ append-nil (only (is_first keys) (numbers i)))

    up_long : is_first keys i ≡ true → length (flat (up_to keys (suc i))) ≡ length (flat (up_to keys i)) + length (group_at keys i)
    unfolding flat
    up_long e =
        ap (λ (r : List (List ℕ)). length (flat r)) (up_first e)
        ∙ ap length (flat_append (up_to keys i) (group_at keys i ∷ []))
        ∙ length-append (flat (up_to keys i)) (group_at keys i ++ []) ∙ ap (λ (r : List ℕ). length (flat (up_to keys i)) + length r) (append-nil (group_at keys i))

  -- a key that does not stand before member i
  abbrev is_new : ℕ → ℕ → Bool
  is_new i y = not (has y (take i keys))

  new_next : (i y : ℕ) → i < length keys → is_new (suc i) y ≡ (not (eqb (get_or keys i 0) y) && is_new i y)
  unfolding has
  new_next i y h =
      rw (take-suc keys i 0 h, has_append y (take i keys) (get_or keys i 0 ∷ []), or-false, eqb_sym y (get_or keys i 0))
      (both (has y (take i keys)) (eqb (get_or keys i 0) y))
    where
      both : (a b : Bool) → not (a || b) ≡ (not b && not a)
      both true true = refl
      both true false = refl
      both false true = refl
      both false false = refl

  none_yet : length (flat (up_to keys 0)) + count (is_new 0) keys ≡ length keys
  unfolding has tabulate only flat
  none_yet = omega (arith, count_length keys)

  -- the groups so far have all members whose keys stand before member i
  all_so_far : (i : ℕ) → i ≤ length keys → length (flat (up_to keys i)) + count (is_new i) keys ≡ length keys
  all_so_far zero h = none_yet
  all_so_far (suc i) h =
      let x = get_or keys i 0 in
      let before = all_so_far i (omega arith) in
      let next : count (is_new (suc i)) keys ≡ count (λ (y : ℕ). not (eqb x y) && is_new i y) keys =
      λ t. count (λ (y : ℕ). new_next i y (omega arith) t) keys in
      ⊎_elim
      (λ (e : is_first keys i ≡ true).
      let own : (y : ℕ) → (eqb x y && is_new i y) ≡ eqb x y = λ y. ⊎_elim
      (λ (o : eqb x y ≡ true). let p : x ≡ y = eqb-true x y o in rw (o, ← p) e)
      (λ (o : eqb x y ≡ false). rw o)
      (cases (eqb x y)) in
      let here : count (λ (y : ℕ). eqb x y && is_new i y) keys ≡ count (eqb x) keys = λ t. count (λ (y : ℕ). own y t) keys in
      omega (arith, before, next, here, up_long i e, length_places x keys 0, count_halves (is_new i) (eqb x) keys))
      (λ (e : is_first keys i ≡ false).
      let other : (y : ℕ) → (not (eqb x y) && is_new i y) ≡ is_new i y = λ y. ⊎_elim
      (λ (o : eqb x y ≡ true). let p : x ≡ y = eqb-true x y o in rw o (sym e ∙ ap (is_new i) p))
      (λ (o : eqb x y ≡ false). rw o)
      (cases (eqb x y)) in
      let here : count (λ (y : ℕ). not (eqb x y) && is_new i y) keys ≡ count (is_new i) keys = λ t. count (λ (y : ℕ). other y t) keys in
      omega (arith, before, next, here, ap (λ (r : List (List ℕ)). length (flat r)) (up_other i e)))
      (cases (is_first keys i))

  -- so the next group has room where all members have
  pub first_room : (i : ℕ) → i < length keys → is_first keys i ≡ true → length (flat (up_to keys i)) + length (group_at keys i) ≤ length keys
  first_room i h e = omega (arith, all_so_far (suc i) h, up_long i e)

  own_key : (xs : List ℕ) (k : ℕ) → k < length xs → has (get_or xs k 0) xs ≡ true
  unfolding has
  own_key [] k h = absurd (not-suc-le-zero h)
  own_key (y ∷ ys) zero h = rw (eq-eqb y y refl)
  own_key (y ∷ ys) (suc k) h = rw (own_key ys k (le_of_suc-le-suc h), or-true)

  -- every member is in exactly one group
  pub members_all : length (flat (up_to keys (length keys))) ≡ length keys
  members_all =
      let none : count (is_new (length keys)) keys ≡ 0 =
      count_none (is_new (length keys)) keys
      (all_each (λ (y : ℕ). is_new (length keys) y ≡ false) 0 keys (λ k l. rw (take-length keys) (ap not (own_key keys k l)))) in
      omega (arith, all_so_far (length keys) (omega arith), none)

  pub groups_few : (i : ℕ) → length (up_to keys i) ≤ i
  groups_few i =
      omega (arith, length-map (only (is_first keys) (numbers i)) (group_at keys), length_only (is_first keys) (numbers i), length_tabulate i (λ (k : ℕ). k))
