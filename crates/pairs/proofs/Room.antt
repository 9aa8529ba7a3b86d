-- Room for what distinct pairs show: no more than twice what all faces have, once along and once reversed.
use Prim.Native.Nat.{◌+◌, ◌-◌, ◌/◌, ◌<◌, ◌≤◌, suc, zero, ℕ}
use mathlib.Core.Bool.{Bool, false, not, true}
use mathlib.Core.List.{List, [], ◌∷◌, map}
use mathlib.Core.Logic.{⊎_elim}
use mathlib.Core.Path.{◌∙◌, ◌≡◌, ap, refl}
use native.Mathlib.Omega.{arith}
use lib.Dec.{eqb, leb, ltb}
use lib.ListN.{drop, get_or, length, length-append, length-drop, take}
use lib.Seq.{length-take-le}
use borrow.Author.Tests.{eq-eqb, eqb-false, eqb-true, ltb-false, ltb-true, ne_eqb, not-true}
use Rattle.groups.proofs.Sums.{sum_alike, sum_change}
use Rattle.lists.proofs.Count.{All, all_map, all_weaker}
use Rattle.lists.proofs.Laws.{cases, eqb_sym, left_true, right_true, sum_append, tabulate_suc}
use Rattle.lists.specs.Lists.{flat, has, no_dup, pick, sum, tabulate}
use Rattle.listing.specs.Parts.{Shows, part_at, parts_of}
use Rattle.shell.specs.Shells.{face_number}
use Rattle.pairs.specs.Pairs.{Rows, mark_of}

-- a table with 0 at x
abbrev without : ℕ → (ℕ → ℕ) → ℕ → ℕ
without x w y = pick (eqb y x) 0 (w y)

map_without : (x : ℕ) (w : ℕ → ℕ) (ys : List ℕ) → has x ys ≡ false → map (without x w) ys ≡ map w ys
unfolding has
map_without x w [] h = refl
map_without x w (y ∷ ys) h =
    ⊎_elim
    (λ (e : eqb x y ≡ true). let z : true ≡ false = rw e at h in cc)
    (λ (e : eqb x y ≡ false). let z : has x ys ≡ false = rw e at h in rw (eqb_sym y x, e, map_without x w ys z))
    (cases (eqb x y))

-- distinct numbers below n are no more than all of them
pub sum_distinct : (n : ℕ) (w : ℕ → ℕ) (xs : List ℕ) → no_dup xs ≡ true → All (λ (x : ℕ). x < n) xs → sum (map w xs) ≤ sum (tabulate n w)
unfolding no_dup sum
sum_distinct n w [] d h = omega arith
sum_distinct n w (x ∷ xs) d h =
    let off : has x xs ≡ false = not-true (has x xs) (left_true (not (has x xs)) (no_dup xs) d) in
    let none : without x w x ≡ 0 = rw (eq-eqb x x refl) in
    omega (
      arith,
      none,
      ap sum (map_without x w xs off),
      sum_distinct n (without x w) xs (right_true (not (has x xs)) (no_dup xs) d) h.1,
      sum_change n w (without x w) x h.0 (λ y l ne. rw (ne_eqb y x ne)),
    )

-- each number twice
sum_twice : (n m : ℕ) (g : ℕ → ℕ) → m ≡ n + n → sum (tabulate m (λ (x : ℕ). g (x / 2))) ≡ sum (tabulate n g) + sum (tabulate n g)
unfolding sum tabulate
sum_twice zero m g e = let z : m ≡ 0 = omega arith in rw z
sum_twice (suc n) m g e =
    let z : m ≡ suc (suc (n + n)) = omega arith in
    rw z
    (omega (
      arith,
      sum_alike (n + n) (λ (x : ℕ). g (suc (suc x) / 2)) (λ (x : ℕ). g (suc (x / 2))) (λ x l. ap g (omega arith)),
      sum_twice n (n + n) (λ (x : ℕ). g (suc x)) refl,
    ))

-- what rises from place to place
abbrev gap : List ℕ → ℕ → ℕ
gap starts f = get_or starts (suc f) 0 - get_or starts f 0

abbrev Rises : List ℕ → ℕ → Type 0
Rises starts n = (f : ℕ) → f < n → get_or starts f 0 ≤ get_or starts (suc f) 0

rises_sum : (starts : List ℕ) (n : ℕ) → Rises starts n → sum (tabulate n (gap starts)) + get_or starts 0 0 ≡ get_or starts n 0
unfolding sum tabulate
rises_sum starts zero h = omega arith
rises_sum starts (suc n) h =
    omega (
      arith,
      ap sum (tabulate_suc n (gap starts)),
      sum_append (tabulate n (gap starts)) (gap starts n ∷ []),
      rises_sum starts n (λ f l. h f (omega arith)),
      h n (omega arith),
    )

rises_to : (starts : List ℕ) (n : ℕ) → Rises starts n → (f : ℕ) → f ≤ n → get_or starts f 0 ≤ get_or starts n 0
rises_to starts zero h f l = let e : f ≡ 0 = omega arith in rw e (omega arith)
rises_to starts (suc n) h f l =
    ⊎_elim
    (λ (b : ltb f (suc n) ≡ true). let m = ltb-true f (suc n) b in omega (arith, h n (omega arith), rises_to starts n (λ g k. h g (omega arith)) f (omega (arith, m))))
    (λ (b : ltb f (suc n) ≡ false). let e : f ≡ suc n = omega (arith, ltb-false f (suc n) b) in rw e (omega arith))
    (cases (ltb f (suc n)))

-- marks of different listings are different
mark_same : (x y : ℕ) → x < 65536 → y < 65536 → eqb (mark_of x) (mark_of y) ≡ eqb x y
mark_same x y h k =
    ⊎_elim
    (λ (e : eqb x y ≡ true). rw e (eq-eqb (mark_of x) (mark_of y) (ap mark_of (eqb-true x y e))))
    (λ (e : eqb x y ≡ false). rw e (ne_eqb (mark_of x) (mark_of y) (λ m. eqb-false x y e (omega (arith, m)))))
    (cases (eqb x y))

abbrev pub Small : ℕ → Type 0
Small l = l < 65536

pub has_marks : (x : ℕ) (ys : List ℕ) → Small x → All Small ys → has (mark_of x) (map mark_of ys) ≡ has x ys
unfolding has
has_marks x [] h k = refl
has_marks x (y ∷ ys) h k = rw (mark_same x y h k.0, has_marks x ys h k.1)

no_dup_marks : (xs : List ℕ) → All Small xs → no_dup (map mark_of xs) ≡ no_dup xs
unfolding no_dup
no_dup_marks [] h = refl
no_dup_marks (x ∷ xs) h = rw (has_marks x xs h.0 h.1, no_dup_marks xs h.1)

-- a listing of one of the faces
abbrev pub Of : ℕ → ℕ → Type 0
Of faces l = (face_number l < faces) × (l < 65536)

module _ {uses turned starts : List ℕ} {faces most : ℕ} (r : Rows uses turned starts faces most) where
  pub rows_shows : (l : ℕ) → face_number l < faces → Shows uses turned starts l
  rows_shows l h =
      let up = rises_to starts faces r.rises (suc (face_number l)) (omega arith) in
      record {
        face = omega (arith, r.begun);
        rises = r.rises (face_number l) h;
        along = omega (arith, up, r.along);
        back = omega (arith, up, r.back);
      }

  part_long : (l : ℕ) → face_number l < faces → (b : Bool)
      → length (take (gap starts (face_number l)) (drop (get_or starts (face_number l) 0) (pick b turned uses))) ≡ gap starts (face_number l)
  part_long l h true =
      let s = rows_shows l h in
      length-take-le (gap starts (face_number l)) (drop (get_or starts (face_number l) 0) turned) (omega (arith, s.back, length-drop (get_or starts (face_number l) 0) turned))
  part_long l h false =
      let s = rows_shows l h in
      length-take-le (gap starts (face_number l)) (drop (get_or starts (face_number l) 0) uses) (omega (arith, s.along, length-drop (get_or starts (face_number l) 0) uses))

  pub rows_short : (l : ℕ) → face_number l < faces → length (part_at uses turned starts l) ≤ most
  rows_short l h =
      omega (arith, part_long l h (leb 32768 l), rises_to starts faces r.rises (suc (face_number l)) (omega arith), r.short)

  parts_sum : (ls : List ℕ) → All (Of faces) ls
      → length (parts_of uses turned starts ls) ≡ sum (map (λ (x : ℕ). gap starts (x / 2)) (map mark_of ls))
  unfolding flat sum
  parts_sum [] h = refl
  parts_sum (l ∷ ls) h =
      let half : mark_of l / 2 ≡ face_number l = omega (arith, h.0.1) in
      rw half
      (omega (arith, length-append (part_at uses turned starts l) (parts_of uses turned starts ls), part_long l h.0.0 (leb 32768 l), parts_sum ls h.1))

  -- all that distinct pairs show
  pub rows_room : (ls : List ℕ) → no_dup ls ≡ true → All (Of faces) ls → length (parts_of uses turned starts ls) ≤ most + most
  rows_room ls d h =
      let small : All Small ls = all_weaker (Of faces) Small (λ l o. o.1) ls h in
      let low : All (λ (x : ℕ). x < faces + faces) (map mark_of ls) = all_map (Of faces) (λ (x : ℕ). x < faces + faces) mark_of (λ l o. omega (arith, o.0, o.1)) ls h in
      omega (
        arith,
        parts_sum ls h,
        sum_distinct (faces + faces) (λ (x : ℕ). gap starts (x / 2)) (map mark_of ls) (no_dup_marks ls small ∙ d) low,
        sum_twice faces (faces + faces) (gap starts) refl,
        rises_sum starts faces r.rises,
        r.short,
      )
