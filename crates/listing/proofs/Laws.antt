-- The uses that a listing shows are a part of one of two columns: the uses, and the uses turned.
use Prim.Native.Nat.{◌+◌, ◌-◌, ◌<◌, ◌≤◌, suc, ℕ}
use mathlib.Core.Bool.{Bool, false, true}
use mathlib.Core.List.{List, [], ◌++◌, ◌∷◌, map, map-append, map-id, reverse}
use mathlib.Core.Path.{◌∙◌, ◌≡◌, ap, refl, sym}
use native.Mathlib.Omega.{arith}
use lib.Dec.{eqb, leb, ltb}
use lib.ListN.{get_or-append, drop, get_or, length, length-append, length-drop, length-map, length-reverse, replicate, take, take-append-drop}
use lib.Seq.{drop-append-le, drop_at, length-take-le, take-add, take-append-le, take_at}
use borrow.Author.Tests.{eqb-true, ltb-true}
use Rattle.edge.specs.Edges.{back_number, front_number}
use Rattle.edge.specs.Uses.{back_of, edge_number, front_of, turned}
use Rattle.errors.proofs.Laws.{each_record, unless_passes}
use Rattle.errors.specs.declared.Refusal.TheVariants.{Unnamed}
use Rattle.face.specs.Faces.{wire_count}
use Rattle.listing.specs.Parts.{face_start, turned_uses}
use Rattle.lists.proofs.Parts.{all_flat, flat_split}
use Rattle.lists.proofs.Count.{All, all_at, all_each, all_map, all_reverse, all_split, all_weaker}
use Rattle.lists.proofs.Flat.{get_d_tabulate}
use Rattle.lists.proofs.Laws.{flat_append, length_tabulate, sum_append, sum_next, sum_take_drop}
use Rattle.lists.proofs.Marks.{AllBelow}
use Rattle.lists.proofs.Split.{drop_split, get_d_split, take_split}
use Rattle.lists.specs.Lists.{flat, padded, pick, split, sum, tabulate}
use Rattle.pattern.proofs.Passed.{records_passed}
use Rattle.pattern.proofs.Named.{point_named, use_named}
use Rattle.pattern.specs.Checks.{name_faults, record_faults}
use Rattle.pattern.specs.Contents.{Content}
use Rattle.shell.proofs.Level.{IsUse}
use Rattle.shell.proofs.Turned.{turned_edge, turned_front, turned_low}
use Rattle.shell.specs.Shells.{face_number, listings_of, shown_wires}

-- a wire as it is, or in reverse order with every use turned
abbrev pub shown_as : Bool → List ℕ → List ℕ
shown_as b us = pick b (map turned (reverse us)) us

-- the column that a listing's uses stand in
abbrev pub column : List ℕ → List ℕ → Bool → List ℕ
column wires uses b = pick b (turned_uses wires uses) uses

-- the part of a column that face f has
abbrev pub face_part : List ℕ → List ℕ → ℕ → List ℕ → List ℕ
face_part counts wires f us = take (face_start counts wires (suc f) - face_start counts wires f) (drop (face_start counts wires f) us)

-- wires shown in a way that keeps their lengths
module _ {ℓ} {A : Type ℓ} (f : List A → List A) (keeps : (us : List A) → length (f us) ≡ length us) where
  flat_cut : (xss : List (List A)) (k : ℕ) → flat (map f xss) ≡ flat (map f (take k xss)) ++ flat (map f (drop k xss))
  flat_cut xss k =
      sym (ap (λ (r : List (List A)). flat (map f r)) (take-append-drop k xss))
      ∙ rw (map-append f (take k xss) (drop k xss)) (flat_append (map f (take k xss)) (map f (drop k xss)))

  shown_long : (ns : List ℕ) (xs : List A) → sum ns ≤ length xs → length (flat (map f (split ns xs))) ≡ sum ns
  unfolding split sum flat
  shown_long [] xs h = refl
  shown_long (n ∷ ns) xs h = omega (
    arith,
    length-append (f (take n xs)) (flat (map f (split ns (drop n xs)))),
    keeps (take n xs),
    length-take-le n xs (omega arith),
    shown_long ns (drop n xs) (omega (arith, length-drop n xs)),
  )

  pub shown_first : (ns : List ℕ) (xs : List A) (k : ℕ) → sum ns ≤ length xs → length (flat (map f (take k (split ns xs)))) ≡ sum (take k ns)
  shown_first ns xs k h = rw (take_split k ns xs) (shown_long (take k ns) xs (omega (arith, sum_take_drop k ns)))

  -- n wires from number w on
  shown_run : (ns : List ℕ) (xs : List A) (w n : ℕ) → sum ns ≤ length xs
      → flat (map f (take n (drop w (split ns xs)))) ≡ take (sum (take n (drop w ns))) (drop (sum (take w ns)) (flat (map f (split ns xs))))
  shown_run ns xs w n h =
      let at = sum (take w ns) in
      let here = flat (map f (take n (drop w (split ns xs)))) in
      let past = flat (map f (take w (split ns xs))) in
      let rest = flat (map f (drop n (drop w (split ns xs)))) in
      let run : take n (drop w (split ns xs)) ≡ split (take n (drop w ns)) (drop at xs) =
      ap (take n) (drop_split w ns xs) ∙ take_split n (drop w ns) (drop at xs) in
      let long : length here ≡ sum (take n (drop w ns)) =
      ap (λ (r : List (List A)). length (flat (map f r))) run
      ∙ shown_long (take n (drop w ns)) (drop at xs) (omega (arith, length-drop at xs, sum_take_drop w ns, sum_take_drop n (drop w ns))) in
      let all : flat (map f (split ns xs)) ≡ past ++ (here ++ rest) = flat_cut (split ns xs) w ∙ ap (λ (r : List A). past ++ r) (flat_cut (drop w (split ns xs)) n) in
      sym (ap (λ (s : List A). take (sum (take n (drop w ns))) (drop at s)) all
      ∙ ap (take (sum (take n (drop w ns)))) (drop_at past (here ++ rest) at (shown_first ns xs w h)) ∙ take_at here rest (sum (take n (drop w ns))) long)

face_long : (counts wires : List ℕ) (f : ℕ)
    → face_start counts wires (suc f) ≡ face_start counts wires f + sum (take (get_or counts f 0) (drop (sum (take f counts)) wires))
face_long counts wires f =
    let w = sum (take f counts) in
    let n = get_or counts f 0 in
    rw (sum_next counts f, take-add w n wires) (sum_append (take w wires) (take n (drop w wires)))

pub starts_rise : (counts wires : List ℕ) (f : ℕ) → face_start counts wires f ≤ face_start counts wires (suc f)
starts_rise counts wires f = omega (arith, face_long counts wires f)

pub starts_inside : (counts wires uses : List ℕ) → sum wires ≡ length uses → (f : ℕ) → face_start counts wires f ≤ length uses
starts_inside counts wires uses e f = omega (arith, sum_take_drop (sum (take f counts)) wires)

-- where face f begins, as `face_starts` leaves it
pub start_at_lem : (n : ℕ) (g : ℕ → ℕ) (f : ℕ) → f ≤ n → get_or (padded 257 0 (tabulate (suc n) g)) f 0 ≡ g f
start_at_lem n g f h =
    get_or-append (tabulate (suc n) g) _ 0 f (omega (arith, length_tabulate (suc n) g)) ∙ get_d_tabulate (suc n) g f 0 (omega arith)

pub turned_keeps : (us : List ℕ) → length (map turned (reverse us)) ≡ length us
turned_keeps us = length-map (reverse us) turned ∙ length-reverse us

pub turned_long : (wires uses : List ℕ) → sum wires ≡ length uses → length (turned_uses wires uses) ≡ length uses
turned_long wires uses e = shown_long (λ (us : List ℕ). map turned (reverse us)) turned_keeps wires uses (omega arith) ∙ e

-- what stands after the column is of no matter
part_padded : (counts wires us : List ℕ) (f m : ℕ) → face_start counts wires (suc f) ≤ length us → face_part counts wires f (padded m 0 us) ≡ face_part counts wires f us
part_padded counts wires us f m h =
    let a = face_start counts wires f in
    let b = face_start counts wires (suc f) in
    let rest = replicate {A = ℕ} (m - length us) 0 in
    let rise = starts_rise counts wires f in
    ap (take (b - a)) (drop-append-le a us rest (omega (arith, rise))) ∙ take-append-le (b - a) (drop a us) rest (omega (arith, length-drop a us, rise))

-- so the part that `shown` takes of the array of `turned_uses`, or of the uses, is that of the column
pub part_shown : (counts wires uses : List ℕ) → sum wires ≡ length uses → (f m : ℕ) (b : Bool)
    → face_part counts wires f (pick b (padded m 0 (turned_uses wires uses)) uses) ≡ face_part counts wires f (column wires uses b)
part_shown counts wires uses e f m true =
    part_padded counts wires (turned_uses wires uses) f m (omega (arith, starts_inside counts wires uses e (suc f), turned_long wires uses e))
part_shown counts wires uses e f m false = refl

pub shown_keeps : (b : Bool) (us : List ℕ) → length (shown_as b us) ≡ length us
shown_keeps true us = turned_keeps us
shown_keeps false us = refl

-- the column is what all wires show
column_is : (wires uses : List ℕ) → sum wires ≡ length uses → (b : Bool) → flat (map (shown_as b) (split wires uses)) ≡ column wires uses b
column_is wires uses e true = refl
column_is wires uses e false = rw (map-id (split wires uses)) (flat_split wires uses e)

module _ (counts wires uses : List ℕ) (e : sum wires ≡ length uses) where
  -- what a face shows is its part of the column
  face_part_lem : (b : Bool) (f : ℕ) → flat (map (shown_as b) (get_or (split counts (split wires uses)) f [])) ≡ face_part counts wires f (column wires uses b)
  face_part_lem b f =
      let w = sum (take f counts) in
      let n = get_or counts f 0 in
      let m : face_start counts wires (suc f) - face_start counts wires f ≡ sum (take n (drop w wires)) = omega (arith, face_long counts wires f) in
      rw (m, get_d_split counts (split wires uses) f, ← column_is wires uses e b)
      (shown_run (shown_as b) (shown_keeps b) wires uses w n (omega arith))

  pub listing_part_lem : (l : ℕ) → flat (shown_wires (split counts (split wires uses)) l) ≡ face_part counts wires (face_number l) (column wires uses (leb 32768 l))
  listing_part_lem l = face_part_lem (leb 32768 l) (face_number l)

pub flat_flat {ℓ ℓ'} : {A : Type ℓ} {B : Type ℓ'} (g : A → List (List B)) (h : A → List B) → ((x : A) → flat (g x) ≡ h x) → (xs : List A)
    → flat (flat (map g xs)) ≡ flat (map h xs)
unfolding flat
flat_flat g h e [] = refl
flat_flat g h e (x ∷ xs) = rw (flat_append (g x) (flat (map g xs)), e x, flat_flat g h e xs)

-- the uses that a listing shows
abbrev pub listing_part : Content → ℕ → List ℕ
listing_part c l = face_part (map wire_count c.faces) c.wires (face_number l) (column c.wires c.uses (leb 32768 l))

-- a use names an edge, and begins and ends at points
abbrev pub Placed : Content → ℕ → Type 0
Placed c u =
    IsUse (length c.edges) u
    × (front_of (map front_number c.edges) (map back_number c.edges) u < length c.points)
    × (back_of (map front_number c.edges) (map back_number c.edges) u < length c.points)

module _ (c : Content) (ok : record_faults c ≡ []) where
  pub shells_summed : sum c.shells ≡ length c.listings
  shells_summed =
      eqb-true (sum c.shells) (length c.listings)
      (unless_passes (eqb (sum c.shells) (length c.listings)) (Unnamed 5 (length c.shells))
      (records_passed c ok).shells)

  pub listing_named : (k : ℕ) → k < length c.listings → face_number (get_or c.listings k 0) < length c.faces
  listing_named k h =
      let l = get_or c.listings k 0 in
      ltb-true (face_number l) (length c.faces)
      (unless_passes (ltb (face_number l) (length c.faces)) (Unnamed 6 (0 + k))
      (each_record (name_faults 6 (length c.faces)) 0 0 c.listings (records_passed c ok).listings k h))

  -- the listings of a shell name faces
  pub listings_named : (n : ℕ) → All (λ (l : ℕ). face_number l < length c.faces) (listings_of c n)
  listings_named n =
      let P : ℕ → Type 0 = λ (l : ℕ). face_number l < length c.faces in
      all_at (All P) [] tt (split c.shells c.listings) (all_split P c.shells c.listings (all_each P 0 c.listings listing_named)) n

  use_points : (u : ℕ) → IsUse (length c.edges) u → Placed c u
  use_points u t =
      let fs = map front_number c.edges in
      let bs = map back_number c.edges in
      let turned_named : edge_number (turned u) < length c.edges = rw (turned_edge u t.0) t.1 in
      (t, point_named c ok u t.1, rw (turned_front fs bs u t.0) at (point_named c ok (turned u) turned_named))

  module _ (small : AllBelow 65536 c.uses) where
    uses_named : All (IsUse (length c.edges)) c.uses
    uses_named = all_each (IsUse (length c.edges)) 0 c.uses (λ k h. (small k h, use_named c ok k h))

    column_named : (b : Bool) → All (IsUse (length c.edges)) (column c.wires c.uses b)
    column_named true =
        let P = IsUse (length c.edges) in
        all_flat P (map (λ (us : List ℕ). map turned (reverse us)) (split c.wires c.uses))
        (all_map (All P) (All P) (λ (us : List ℕ). map turned (reverse us))
        (λ us h. all_map P P turned (λ u t. (turned_low u t.0, rw (turned_edge u t.0) t.1)) (reverse us) (all_reverse P us h))
        (split c.wires c.uses) (all_split P c.wires c.uses uses_named))
    column_named false = uses_named

    -- every use that a listing shows
    pub part_placed : (l : ℕ) → All (Placed c) (listing_part c l)
    unfolding split
    part_placed l =
        let a = face_start (map wire_count c.faces) c.wires (face_number l) in
        let b = face_start (map wire_count c.faces) c.wires (suc (face_number l)) in
        all_weaker (IsUse (length c.edges)) (Placed c) use_points (listing_part c l)
        (all_split (IsUse (length c.edges)) (a ∷ ((b - a) ∷ [])) (column c.wires c.uses (leb 32768 l)) (column_named (leb 32768 l))).1.0
