-- Laws of faces: the wires one by one, the points that they share, face by face.
use Rattle.std.specs.Prelude.{Err, Ok}
use Prim.Native.Nat.{◌+◌, ◌-◌, ◌<◌, ◌≤◌, suc, ℕ}
use mathlib.Core.Bool.{false, not, true}
use mathlib.Core.List.{List, [], ◌++◌, ◌∷◌, map}
use mathlib.Core.Path.{◌∙◌, ◌≡◌, ap, refl, sym}
use native.Mathlib.Numerals.{add-one}
use native.Mathlib.Omega.{arith}
use lib.ListN.{drop, drop_of_length-le, get_or, length, length-drop, length-take, take}
use lib.Seq.{drop-cons, take-add, take_all}
use borrow.Author.Tests.{not-false, not-true}
use Rattle.errors.proofs.Laws.{Passed, accepted_none, each_record, passed_next, passed_stop, refused_first}
use Rattle.errors.specs.Faults.{each, first}
use Rattle.errors.specs.declared.Refusal.{Refusal}
use Rattle.errors.specs.declared.Refusal.TheVariants.{Wire}
use Rattle.errors.specs.declared.WireError.{WireError}
use Rattle.errors.specs.declared.WireError.TheVariants.{NotSimpleWire}
use Rattle.face.specs.Faces.{face_faults, face_rule, outline_faults, shared_faults}
use Rattle.lists.proofs.Laws.{length_split, sum_append, sum_take_drop}
use Rattle.lists.proofs.Marks.{AllBelow, Holds, disjoint_nil, holds_fresh, holds_stamped, met_seen}
use Rattle.lists.proofs.Split.{Walk, get_d_split, split_run, walk_fits, walk_part}
use Rattle.lists.specs.Lists.{disjoint, no_dup, split, sum, unless}
use Rattle.lists.specs.Marks.{Below, met, stamped}
use Rattle.wire.proofs.Laws.{faultless_no_dup, named_part, points_below}
use Rattle.wire.specs.Named.{Named}
use Rattle.wire.specs.Wires.{points, wire_faults}
use Rattle.errors.specs.Sequence.{first_of_wire}

-- the answer for wire number w, as an answer of the checks
pub wire_passes : (w : ℕ) (es : List WireError) → first_of_wire es ≡ Ok tt → first (map (Wire w) es) ≡ Ok tt
wire_passes w [] h = refl
wire_passes w (e ∷ es) h = cc

pub wire_stops : (w : ℕ) (es : List WireError) (e : WireError) → first_of_wire es ≡ Err e → first (map (Wire w) es) ≡ (Err (Wire w e))
wire_stops w [] e h = cc
wire_stops w (d ∷ es) e h = cc

pub none_mapped : (w : ℕ) (es : List WireError) → map (Wire w) es ≡ [] → es ≡ []
none_mapped w [] h = refl
none_mapped w (e ∷ es) h = cc

-- a loop over the faces is at face k: it has n wires, the first is wire w and has its uses from place `at` on, `total` of them in all
pub record FaceAt (counts lengths uses : List ℕ) (k w at n total : ℕ) : Type 0 where
  pub walk : Walk counts k w
  pub here : at ≡ sum (take w lengths)
  pub inside : k < length counts
  pub is : n ≡ get_or counts k 0
  pub all_wires : sum counts ≡ length lengths
  pub all_uses : sum lengths ≡ length uses
  pub its_uses : total ≡ sum (take (w + n - w) (drop w lengths))

-- the face's wires, as the code takes them
abbrev pub face_wires : List ℕ → List ℕ → ℕ → ℕ → ℕ → ℕ → List (List ℕ)
face_wires lengths uses w at n total = split (take (w + n - w) (drop w lengths)) (take (at + total - at) (drop at uses))

module _ {counts lengths uses : List ℕ} {k w at n total : ℕ} (t : FaceAt counts lengths uses k w at n total) where
  pub wires_fit : w + n ≤ length lengths
  wires_fit = omega (arith, walk_fits counts k w n t.walk t.inside t.is, t.all_wires)

  pub part_long : length (take (w + n - w) (drop w lengths)) ≡ n
  part_long = omega (arith, length-take (w + n - w) (drop w lengths), length-drop w lengths, wires_fit)

  part_is : take (w + n - w) (drop w lengths) ≡ take n (drop w lengths)
  part_is = let e : w + n - w ≡ n = omega arith in rw e

  pub part_sum : sum (take (w + n - w) (drop w lengths)) ≡ total
  part_sum = sym t.its_uses

  -- the next face's uses begin after this one's
  pub uses_next : at + total ≡ sum (take (w + n) lengths)
  uses_next =
      let e : sum (take n (drop w lengths)) ≡ total = rw part_is at part_sum in
      rw (take-add w n lengths) (omega (arith, sum_append (take w lengths) (take n (drop w lengths)), t.here))

  pub uses_fit : at + total ≤ length uses
  uses_fit = omega (arith, uses_next, sum_take_drop (w + n) lengths, t.all_uses)

  pub uses_long : length (take (at + total - at) (drop at uses)) ≡ total
  uses_long = omega (arith, length-take (at + total - at) (drop at uses), length-drop at uses, uses_fit)

  pub face_is : get_or (split counts (split lengths uses)) k [] ≡ face_wires lengths uses w at n total
  face_is =
      let e : at + total - at ≡ total = omega arith in
      let f : sum (take n (drop w lengths)) ≡ total = rw part_is at part_sum in
      get_d_split counts (split lengths uses) k
      ∙ rw (← t.is, ← t.walk.here, split_run lengths uses w n, f, ← t.here, e, part_is)

  pub face_long : length (face_wires lengths uses w at n total) ≡ n
  face_long = length_split (take (w + n - w) (drop w lengths)) (take (at + total - at) (drop at uses)) ∙ part_long

module _ (fronts backs : List ℕ) where
  -- a loop over the wires is at wire k, which has n uses from place `at` on
  module _
      (lengths uses : List ℕ) (w k at n : ℕ) (s : Passed (outline_faults fronts backs) [] (split lengths uses) w k)
      (t : Walk lengths k at) (h : k < length lengths) (is : n ≡ get_or lengths k 0) where
    pub outline_next : first_of_wire (wire_faults fronts backs (take (at + n - at) (drop at uses))) ≡ Ok tt
        → Passed (outline_faults fronts backs) [] (split lengths uses) w (k + 1)
    outline_next a =
        passed_next (outline_faults fronts backs) [] (split lengths uses) w k (w + k) _ s (rw (length_split lengths uses) h)
        (walk_part lengths k at n t h is uses) refl (wire_passes (w + k) (wire_faults fronts backs (take (at + n - at) (drop at uses))) a)

    pub outline_stop : (e : WireError) → first_of_wire (wire_faults fronts backs (take (at + n - at) (drop at uses))) ≡ Err e
        → first (each (outline_faults fronts backs) w (split lengths uses)) ≡ (Err (Wire (w + k) e))
    outline_stop e a =
        passed_stop (outline_faults fronts backs) [] (split lengths uses) w k (w + k) _ s (rw (length_split lengths uses) h)
        (walk_part lengths k at n t h is uses) refl (Wire (w + k) e) (wire_stops (w + k) (wire_faults fronts backs (take (at + n - at) (drop at uses))) e a)

  -- where no wire has a fault by itself, each meets no point twice
  pub wire_once : (wires : List (List ℕ)) (w k : ℕ) → each (outline_faults fronts backs) w wires ≡ [] → k < length wires
      → no_dup (points fronts backs (get_or wires k [])) ≡ true
  wire_once wires w k e h = faultless_no_dup fronts backs (get_or wires k []) (none_mapped (w + k) _ (each_record (outline_faults fronts backs) [] w wires e k h))

  -- a loop that stamps wire after wire has met no point again in the first i; `earlier` has their points
  pub record Apart (wires : List (List ℕ)) (w stamp : ℕ) (marks : List ℕ) (i : ℕ) : Type 0 where
    pub low : i ≤ length wires
    pub earlier : List ℕ
    pub marked : Holds 2048 stamp marks earlier
    pub rest : shared_faults fronts backs [] w wires ≡ shared_faults fronts backs earlier (w + i) (drop i wires)

  pub apart_start : (wires : List (List ℕ)) (w stamp : ℕ) (marks : List ℕ) → length marks ≡ 2048 → Below stamp marks → Apart wires w stamp marks 0
  apart_start wires w stamp marks l b = let e : w + 0 ≡ w = omega arith in
      record { low = omega arith; earlier = []; marked = holds_fresh 2048 stamp marks l b; rest = rw e }

  -- the loop is at wire k, which has n uses from place `at` on
  module _
      (lengths uses : List ℕ) (w stamp : ℕ) (marks : List ℕ) (k at n : ℕ) (s : Apart (split lengths uses) w stamp marks k)
      (t : Walk lengths k at) (h : k < length lengths) (is : n ≡ get_or lengths k 0)
      (named : Named fronts backs uses) (alone : each (outline_faults fronts backs) w (split lengths uses) ≡ []) where
    abbrev ps : List ℕ
    ps = points fronts backs (take (at + n - at) (drop at uses))

    below : AllBelow 2048 ps
    below = points_below fronts backs (take (at + n - at) (drop at uses)) (named_part fronts backs uses named at (at + n - at))

    inside : k < length (split lengths uses)
    inside = rw (length_split lengths uses) h

    seen : met stamp ps marks ≡ not (disjoint ps s.earlier)
    seen =
        met_seen 2048 stamp ps marks s.earlier s.marked below
        (rw (walk_part lengths k at n t h is uses) at (wire_once (split lengths uses) w k alone inside))

    unfold_rest : shared_faults fronts backs [] w (split lengths uses)
        ≡ unless (disjoint ps s.earlier) (Wire (w + k) NotSimpleWire)
        ++ shared_faults fronts backs (s.earlier ++ ps) (suc (w + k)) (drop (suc k) (split lengths uses))
    unfolding shared_faults
    unfold_rest = s.rest ∙ rw (drop-cons (split lengths uses) k [] inside, walk_part lengths k at n t h is uses)

    pub apart_next : met stamp ps marks ≡ false → Apart (split lengths uses) w stamp (stamped stamp ps marks) (k + 1)
    apart_next m =
        let z : w + suc k ≡ suc (w + k) = omega arith in
        record {
          low = omega (arith, inside);
          earlier = s.earlier ++ ps;
          marked = holds_stamped 2048 stamp ps marks s.earlier s.marked below;
          rest = rw (add-one, z) (unfold_rest ∙ rw (not-false (disjoint ps s.earlier) (sym seen ∙ m)));
        }

    pub apart_stop : met stamp ps marks ≡ true → first (shared_faults fronts backs [] w (split lengths uses)) ≡ (Err (Wire (w + k) NotSimpleWire))
    apart_stop m = ap first unfold_rest ∙ rw (not-true (disjoint ps s.earlier) (sym seen ∙ m))

  pub apart_all : (wires : List (List ℕ)) (w stamp : ℕ) (marks : List ℕ) (i : ℕ) → Apart wires w stamp marks i → length wires ≤ i
      → shared_faults fronts backs [] w wires ≡ []
  unfolding shared_faults
  apart_all wires w stamp marks i s h = s.rest ∙ rw drop_of_length-le

  -- a loop over the faces has passed the first i without a fault; the next one's first wire has number w
  pub record Ruled (faces : List (List (List ℕ))) (i w : ℕ) : Type 0 where
    pub low : i ≤ length faces
    pub rest : face_rule fronts backs 0 faces ≡ face_rule fronts backs w (drop i faces)

  pub ruled_start : (faces : List (List (List ℕ))) → Ruled faces 0 0
  ruled_start faces = record { low = omega arith; rest = refl }

  -- the loop is at face k
  module _ {counts lengths uses : List ℕ} {k w at n total : ℕ} (t : FaceAt counts lengths uses k w at n total) (s : Ruled (split counts (split lengths uses)) k w) where
    unfold_face : face_rule fronts backs 0 (split counts (split lengths uses))
        ≡ face_faults fronts backs w (face_wires lengths uses w at n total) ++ face_rule fronts backs (w + n) (drop (suc k) (split counts (split lengths uses)))
    unfolding face_rule
    unfold_face =
        let h : k < length (split counts (split lengths uses)) = rw (length_split counts (split lengths uses)) t.inside in
        s.rest ∙ rw (drop-cons (split counts (split lengths uses)) k [] h, face_is t, face_long t)

    pub ruled_next : first (face_faults fronts backs w (face_wires lengths uses w at n total)) ≡ Ok tt → Ruled (split counts (split lengths uses)) (k + 1) (w + n)
    ruled_next a = record {
      low = omega (arith, length_split counts (split lengths uses));
      rest = rw add-one (unfold_face ∙ rw (accepted_none (face_faults fronts backs w (face_wires lengths uses w at n total)) a));
    }

    pub ruled_stop : (r : Refusal) → first (face_faults fronts backs w (face_wires lengths uses w at n total)) ≡ Err r
        → first (face_rule fronts backs 0 (split counts (split lengths uses))) ≡ Err r
    ruled_stop r a = ap first unfold_face ∙ refused_first (face_faults fronts backs w (face_wires lengths uses w at n total)) _ r a

  pub ruled_all : (faces : List (List (List ℕ))) (i w : ℕ) → Ruled faces i w → length faces ≤ i → face_rule fronts backs 0 faces ≡ []
  unfolding face_rule
  ruled_all faces i w s h = s.rest ∙ rw drop_of_length-le

-- one wire alone shares no point
pub one_alone : (fronts backs : List ℕ) (w : ℕ) (wires : List (List ℕ)) → length wires < 2 → shared_faults fronts backs [] w wires ≡ []
unfolding shared_faults
one_alone fronts backs w [] h = refl
one_alone fronts backs w (us ∷ []) h = rw (disjoint_nil (points fronts backs us))
one_alone fronts backs w (us ∷ vs ∷ wires) h = absurd (omega arith)
