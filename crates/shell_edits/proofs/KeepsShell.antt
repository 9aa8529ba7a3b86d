-- What a cut makes of a shell, where no wire has the edge there and back: every use of the edge gives way to its halves.
use Rattle.edge.specs.declared.Curve.{Curve}
use Rattle.std.specs.Prelude.{None, Option, Some}
use Prim.Native.Nat.{◌+◌, ◌<◌, ◌≤◌, ℕ}
use mathlib.Core.Bool.{Bool, ◌&&◌, false, not, true, true≢false}
use mathlib.Core.List.{List, [], ◌++◌, ◌∷◌, append-nil, map, map-map, reverse}
use mathlib.Core.Path.{◌∙◌, ◌≡◌, ap, refl, sym}
use native.Mathlib.Omega.{arith}
use lib.Dec.{leb, ltb}
use lib.ListN.{get_or-map, get_or, length, length-map}
use lib.Seq.{get_or-append-add, get_or-append_seam}
use borrow.Author.Tests.{eqb-false, le-leb, lt-leb, ltb-false, ltb-true, not-true}
use Rattle.curve.specs.Curves.{cut_curve}
use Rattle.curve.specs.declared.Parameter.{Parameter}
use Rattle.edge.specs.Edges.{back_number, front_number}
use Rattle.edge.specs.Uses.{edge_number, front_of, turned}
use Rattle.edge.specs.declared.Edge.{Edge}
use Rattle.edit_answers.specs.declared.EditError.{EditError}
use Rattle.face.specs.Faces.{wire_count}
use Rattle.lists.proofs.Count.{All, all_at, all_each, all_map, all_reverse, all_split, all_weaker, count_append, count_length, count_reverse}
use Rattle.lists.proofs.Laws.{left_true, length_split, right_true}
use Rattle.lists.proofs.Marks.{AllBelow}
use Rattle.lists.proofs.Parts.{map_same, none_counted, split_flat}
use Rattle.lists.specs.Lists.{count, flat, has, numbers, pick, split}
use Rattle.pattern.proofs.Named.{point_named, use_named}
use Rattle.pattern.specs.Checks.{content_faults, outlines}
use Rattle.pattern.specs.Contents.{Content, zero_edge}
use Rattle.shell.proofs.Chain.{from, to}
use Rattle.shell.proofs.Level.{IsUse, closed_level, uses_low}
use Rattle.shell.proofs.Turned.{turned_edge, turned_front, turned_low}
use Rattle.shell.proofs.Walked.{Ring}
use Rattle.shell.specs.Openings.{back_in, front_in}
use Rattle.shell.specs.Shells.{face_number, listings_of, shell_faces, shell_uses, shell_wires, shown_wire, shown_wires}
use Rattle.shell_edits.proofs.Accepted.{Ruled, old_back, old_front, records_fine, rule_fine, rule_ruled}
use Rattle.shell_edits.proofs.Cut.{Tables, back_cut, change, change_none, cut_first_lem, cut_first, has_counts, has_edge}
use Rattle.shell_edits.proofs.CutMade.{cut_long, edges_few}
use Rattle.shell_edits.proofs.KeepsUses.{all_both, all_made, cut_halved, flat_made, flat_map, shown_halved}
use Rattle.shell_edits.proofs.Wires.{all_has, each_at, listed_outlines, none_flat}
use Rattle.shell_edits.specs.Edits.{cut_content, cut_faults, cut_wires, edge_at, listed_wires, outline, shares_face, uses_in, wires_in, wires_of}
use Rattle.shell_edits.specs.Keeps.{halve, halved}
use Rattle.shell_edits.specs.NewEdges.{half_edges, is_cut}
use Rattle.shell_edits.specs.Theorems.{some_there_and_back, there_and_back}

-- ---- the ends of uses, before a cut and after

-- the uses of edge e, reversed or not, and of its halves a and a + 1; the ends of any older use stay
pub record Ends (e a p : ℕ) (front back front' back' : ℕ → ℕ) : Type 0 where
  pub inside : e < a
  pub few : a + 2 ≤ 32768
  pub old_front : (u : ℕ) → edge_number u < a → front' u ≡ front u
  pub old_back : (u : ℕ) → edge_number u < a → back' u ≡ back u
  pub reversed_front : front (e + 32768) ≡ back e
  pub reversed_back : back (e + 32768) ≡ front e
  pub first_front : front' a ≡ front e
  pub first_back : back' a ≡ p
  pub second_front : front' (a + 1) ≡ p
  pub second_back : back' (a + 1) ≡ back e
  pub reversed_second_front : front' (a + 1 + 32768) ≡ back e
  pub reversed_second_back : back' (a + 1 + 32768) ≡ p
  pub reversed_first_front : front' (a + 32768) ≡ p
  pub reversed_first_back : back' (a + 32768) ≡ front e

-- a use of one of the first a edges, which begins and ends at named points other than p
pub record Apart (a p points : ℕ) (front back : ℕ → ℕ) (u : ℕ) : Type 0 where
  pub low : u < 65536
  pub named : edge_number u < a
  pub front_apart : front u ≡ p → ⊥
  pub back_apart : back u ≡ p → ⊥
  pub front_inside : front u < points
  pub back_inside : back u < points

-- a wire of such uses, with one at least
abbrev pub Clear : (a p points : ℕ) (front back : ℕ → ℕ) → List ℕ → Type 0
Clear a p points front back us = (0 < length us) × All (Apart a p points front back) us

-- the ends of edge k
module _ (c : Content) (k : ℕ) (low : k < 32768) where
  plain_front : (xs ys : List ℕ) → front_of xs ys k ≡ get_or xs k 0
  unfolding front_of
  plain_front xs ys = let z : edge_number k ≡ k = omega arith in rw (lt-leb 32768 k low, z)

  turned_plain : (xs ys : List ℕ) → front_of xs ys (k + 32768) ≡ get_or ys k 0
  unfolding front_of
  turned_plain xs ys = let z : edge_number (k + 32768) ≡ k = omega arith in rw (le-leb 32768 (k + 32768) (omega arith), z)

  abbrev fronts : List ℕ
  fronts = map front_number c.edges

  abbrev backs : List ℕ
  backs = map back_number c.edges

  front_at : front_in c k ≡ front_number (edge_at c k)
  front_at = plain_front fronts backs ∙ get_or-map front_number c.edges k zero_edge

  back_at : back_in c k ≡ back_number (edge_at c k)
  back_at = plain_front backs fronts ∙ get_or-map back_number c.edges k zero_edge

  turned_front_at : front_in c (k + 32768) ≡ back_number (edge_at c k)
  turned_front_at = turned_plain fronts backs ∙ get_or-map back_number c.edges k zero_edge

  turned_back_at : back_in c (k + 32768) ≡ front_number (edge_at c k)
  turned_back_at = turned_plain backs fronts ∙ get_or-map front_number c.edges k zero_edge

-- ---- a cut that is not refused: what the refusals test, apart from the room
module _ (c : Content) (n e p : ℕ) (at : Parameter) where
  record Allowed : Type 0 where
    edge : e < length c.edges
    point : p < length c.points
    fresh : has p (map (front_in c) (uses_in c n)) ≡ false
    halves : is_cut (cut_curve (edge_at c e).curve at) ≡ true

  allowed : cut_faults c n e p at ≡ [] → Allowed
  allowed cut =
      let shell = ltb n (length c.shells) in
      let edge = ltb e (length c.edges) in
      let point = ltb p (length c.points) in
      let met = has p (map (front_in c) (uses_in c n)) in
      let named = passes (shell && edge && point) (λ no. refused (rw no at cut)) in
      let apart = passes (not (shares_face c n)) (λ no. refused (rw (named, no) at cut)) in
      let fresh = passes (not met) (λ no. refused (rw (named, apart, no) at cut)) in
      let there = passes (has e (map edge_number (uses_in c n))) (λ no. refused (rw (named, apart, fresh, no) at cut)) in
      record {
        edge = ltb-true e (length c.edges) (right_true shell edge (left_true (shell && edge) point named));
        point = ltb-true p (length c.points) (right_true (shell && edge) point named);
        fresh = not-true met fresh;
        halves = passes (is_cut (cut_curve (edge_at c e).curve at)) (λ no. refused (rw (named, apart, fresh, there, no) at cut));
      }
    where
      passes : (b : Bool) → (b ≡ false → ⊥) → b ≡ true
      passes true h = refl
      passes false h = absurd (h refl)

      refused : {x : EditError} {es : List EditError} → x ∷ es ≡ [] → ⊥
      refused h = omega (arith, ap length h)

module _ (c : Content) (ok : content_faults c ≡ []) (n e p : ℕ) (at : Parameter) (cut : cut_faults c n e p at ≡ []) where
  abbrev fs : List ℕ
  fs = map front_number c.edges

  abbrev bs : List ℕ
  bs = map back_number c.edges

  abbrev a : ℕ
  a = length c.edges

  abbrev after : Content
  after = cut_content c n e p at

  may : Allowed c n e p at
  may = allowed c n e p at cut

  few : a + 2 ≤ 1024
  few = edges_few c ok n e p at cut

  fronts_long : length fs ≡ a
  fronts_long = length-map c.edges front_number

  -- ---- the ends of the halves
  abbrev edges_with : Option (Curve × Curve) → List Edge
  edges_with h = c.edges ++ half_edges (edge_at c e) p h

  half_ends : (h : Option (Curve × Curve)) → is_cut h ≡ true
      → ((front_number (get_or (edges_with h) a zero_edge) ≡ front_number (edge_at c e)) × (back_number (get_or (edges_with h) a zero_edge) ≡ p))
      × ((front_number (get_or (edges_with h) (a + 1) zero_edge) ≡ p) × (back_number (get_or (edges_with h) (a + 1) zero_edge) ≡ back_number (edge_at c e)))
  half_ends None h = absurd (true≢false (sym h))
  half_ends (Some (k, l)) h =
      let es = half_edges (edge_at c e) p (Some (k, l)) in
      let first = get_or-append_seam c.edges (get_or es 0 zero_edge) (get_or es 1 zero_edge ∷ []) zero_edge in
      let second = get_or-append-add c.edges es 1 zero_edge in
      ((ap front_number first, ap back_number first), (ap front_number second, ap back_number second))

  pub cut_ends : Ends e a p (front_in c) (back_in c) (front_in after) (back_in after)
  cut_ends =
      let h = half_ends (cut_curve (edge_at c e).curve at) may.halves in
      let es = half_edges (edge_at c e) p (cut_curve (edge_at c e).curve at) in
      let low : e < 32768 = omega (arith, few, may.edge) in
      let low₁ : a < 32768 = omega (arith, few) in
      let low₂ : a + 1 < 32768 = omega (arith, few) in record {
        inside = may.edge;
        few = omega (arith, few);
        old_front = old_front c es;
        old_back = old_back c es;
        reversed_front = turned_front_at c e low ∙ sym (back_at c e low);
        reversed_back = turned_back_at c e low ∙ sym (front_at c e low);
        first_front = front_at after a low₁ ∙ h.0.0 ∙ sym (front_at c e low);
        first_back = back_at after a low₁ ∙ h.0.1;
        second_front = front_at after (a + 1) low₂ ∙ h.1.0;
        second_back = back_at after (a + 1) low₂ ∙ h.1.1 ∙ sym (back_at c e low);
        reversed_second_front = turned_front_at after (a + 1) low₂ ∙ h.1.1 ∙ sym (back_at c e low);
        reversed_second_back = turned_back_at after (a + 1) low₂ ∙ h.1.0;
        reversed_first_front = turned_front_at after a low₁ ∙ h.0.1;
        reversed_first_back = turned_back_at after a low₁ ∙ h.0.0 ∙ sym (front_at c e low);
      }

  pub point_inside : p < length c.points
  point_inside = may.point

  -- ---- the stored wires of the shell
  abbrev counts : List ℕ
  counts = map wire_count c.faces

  -- the numbers of the wires of a listing, and the wires
  abbrev wires_at : ℕ → List ℕ
  wires_at l = get_or (split counts (numbers (length c.wires))) (face_number l) []

  wires_at_lem : (ws : List (List ℕ)) → length ws ≡ length c.wires → (l : ℕ) → get_or (split counts ws) (face_number l) [] ≡ map (λ (w : ℕ). get_or ws w []) (wires_at l)
  unfolding listed_wires flat
  wires_at_lem ws long l =
      let g : ℕ → List ℕ = λ (w : ℕ). get_or ws w [] in
      let face = get_or (split counts ws) (face_number l) [] in
      let h : map g (wires_at l ++ []) ≡ face ++ [] = rw long at (listed_outlines counts ws (l ∷ [])) in
      sym (append-nil face) ∙ sym h ∙ ap (map g) (append-nil (wires_at l))

  -- the wires of a listing before and after
  abbrev face : ℕ → List (List ℕ)
  face l = get_or (outlines c) (face_number l) []

  abbrev face_after : ℕ → List (List ℕ)
  face_after l = get_or (outlines after) (face_number l) []

  cut_at : (w : ℕ) → has w (wires_of c n) ≡ true → get_or (cut_wires c n e) w [] ≡ cut_first e a (outline c w)
  cut_at w h =
      let s : ℕ → Bool = λ (v : ℕ). has v (wires_of c n) in
      let z : 0 + w ≡ w = omega arith in
      each_at (change e a s) (change_none e a s) 0 (wires_in c) w ∙ rw (z, h) (cut_first_lem e a (outline c w))

  face_cut : (l : ℕ) → All (λ (w : ℕ). has w (wires_of c n) ≡ true) (wires_at l) → face_after l ≡ map (cut_first e a) (face l)
  face_cut l h =
      ap (λ (ws : List (List ℕ)). get_or (split counts ws) (face_number l) []) (split_flat (cut_wires c n e))
      ∙ wires_at_lem (cut_wires c n e) (cut_long c ok n e p at cut) l
      ∙ map_same (λ (w : ℕ). get_or (cut_wires c n e) w []) (λ (w : ℕ). cut_first e a (outline c w)) (wires_at l)
      (all_weaker (λ (w : ℕ). has w (wires_of c n) ≡ true) (λ (w : ℕ). get_or (cut_wires c n e) w [] ≡ cut_first e a (outline c w)) cut_at (wires_at l) h)
      ∙ sym (map-map (cut_first e a) (outline c) (wires_at l))
      ∙ ap (map (cut_first e a)) (sym (wires_at_lem (wires_in c) (length_split c.wires c.uses) l))

  -- a wire of an accepted pattern
  abbrev Simple : List ℕ → Type 0
  Simple us = (q : ℕ) → count (from fs bs q) us ≤ 1

  simple_each : (ws : List (List ℕ)) → Simple (flat ws) → All Simple ws
  unfolding flat
  simple_each [] h = tt
  simple_each (us ∷ ws) h = (
    λ q. omega (arith, h q, count_append (from fs bs q) us (flat ws)),
    simple_each ws (λ q. omega (arith, h q, count_append (from fs bs q) us (flat ws))),
  )

  ruled : (l : ℕ) → Ruled fs bs (face l)
  unfolding flat count
  ruled l = all_at (Ruled fs bs) [] (record { rings = tt; once = λ q. omega arith }) (outlines c) (rule_ruled fs bs 0 (outlines c) (rule_fine c ok)) (face_number l)

  module _ (small : AllBelow 65536 c.uses) where
    named : (l : ℕ) → All (All (IsUse a)) (face l)
    named l =
        let uses : All (IsUse a) c.uses = all_each (IsUse a) 0 c.uses (λ k h. (small k h, use_named c (records_fine c ok) k h)) in
        all_at (All (All (IsUse a))) [] tt (outlines c) (all_split (All (IsUse a)) counts (wires_in c) (all_split (IsUse a) c.wires c.uses uses)) (face_number l)

    -- the edge is in the wire no more, unless it was there both ways
    gone : (us : List ℕ) → All (IsUse a) us → Simple us → has_edge e (cut_first e a us) ≡ there_and_back e us
    gone us h s =
        let t : Tables fs bs e p = record { alike = length-map c.edges back_number ∙ sym fronts_long; inside = omega (arith, fronts_long, may.edge); few = omega (arith, fronts_long, few) } in
        rw fronts_long at (back_cut fs bs e p t us (uses_low a us h) s)

    -- ---- where no wire of the shell has the edge there and back
    module _ (simple : some_there_and_back c n e ≡ false) where
      abbrev Listed : ℕ → Type 0
      Listed w = ((has w (wires_of c n) ≡ true) × (there_and_back e (outline c w) ≡ false)) × (count (from fs bs p) (outline c w) ≡ 0)

      all_listed : All (λ (l : ℕ). All Listed (wires_at l)) (listings_of c n)
      unfolding listed_wires
      all_listed =
          let ws = wires_of c n in
          let one_way = none_counted (λ (w : ℕ). there_and_back e (outline c w)) ws (omega (arith, ltb-false 0 (count (λ (w : ℕ). there_and_back e (outline c w)) ws) simple)) in
          let none : count (from fs bs p) (uses_in c n) ≡ 0 = omega (arith, ltb-false 0 (count (from fs bs p) (uses_in c n)) (sym (has_counts (front_in c) p (uses_in c n)) ∙ may.fresh)) in
          all_made Listed wires_at (listings_of c n)
          (all_both (λ (w : ℕ). (has w ws ≡ true) × (there_and_back e (outline c w) ≡ false)) (λ (w : ℕ). count (from fs bs p) (outline c w) ≡ 0) ws
          (all_both (λ (w : ℕ). has w ws ≡ true) (λ (w : ℕ). there_and_back e (outline c w) ≡ false) ws (all_has ws) one_way)
          (none_flat (from fs bs p) (outline c) ws none))

      -- a wire of the shell, as stored or as shown
      abbrev IsApart : ℕ → Type 0
      IsApart = Apart a p (length c.points) (front_in c) (back_in c)

      abbrev IsClear : List ℕ → Type 0
      IsClear = Clear a p (length c.points) (front_in c) (back_in c)

      clear : (us : List ℕ) → Ring fs bs us → All (IsUse a) us → count (from fs bs p) us ≡ 0 → IsClear us
      clear us r h z =
          let begins = none_counted (from fs bs p) us z in
          let ends = none_counted (to fs bs p) us (omega (arith, z, closed_level fs bs us r.1 p)) in
          let P : ℕ → Type 0 = λ (u : ℕ). (from fs bs p u ≡ false) × (to fs bs p u ≡ false) in (
            r.0,
            all_weaker (λ (u : ℕ). IsUse a u × P u) IsApart
                (λ u t. record {
                  low = t.0.0;
                  named = t.0.1;
                  front_apart = eqb-false (front_in c u) p t.1.0;
                  back_apart = eqb-false (back_in c u) p t.1.1;
                  front_inside = point_named c (records_fine c ok) u t.0.1;
                  back_inside = rw (← turned_front fs bs u t.0.0) (point_named c (records_fine c ok) (turned u) (rw (turned_edge u t.0.0) t.0.1));
                })
                us (all_both (IsUse a) P us h (all_both (λ (u : ℕ). from fs bs p u ≡ false) (λ (u : ℕ). to fs bs p u ≡ false) us begins ends)),
          )

      clear_shown : (l : ℕ) (us : List ℕ) → IsClear us → IsClear (shown_wire l us)
      clear_shown l us h = go (leb 32768 l)
        where
          turn : (u : ℕ) → IsApart u → IsApart (turned u)
          turn u t =
              let f : front_in c (turned u) ≡ back_in c u = turned_front fs bs u t.low in
              let b : back_in c (turned u) ≡ front_in c u = turned_front bs fs u t.low in record {
                low = turned_low u t.low;
                named = rw (turned_edge u t.low) t.named;
                front_apart = rw f t.back_apart;
                back_apart = rw b t.front_apart;
                front_inside = rw f t.back_inside;
                back_inside = rw b t.front_inside;
              }

          go : (b : Bool) → IsClear (pick b (map turned (reverse us)) us)
          go true = (
            omega (arith, h.0, length-map (reverse us) turned, count_length (reverse us), count_length us, count_reverse (λ (u : ℕ). true) us),
            all_map IsApart IsApart turned turn (reverse us) (all_reverse IsApart us h.1),
          )
          go false = h

      -- the wires of a listing are clear, and give way to the halved wires
      face_clear : (l : ℕ) → All Listed (wires_at l) → All IsClear (face l) × (face_after l ≡ map (halved e a) (face l))
      face_clear l h =
          let P : List ℕ → Type 0 = λ (us : List ℕ). (Ring fs bs us × Simple us) × All (IsUse a) us in
          let Q : List ℕ → Type 0 = λ (us : List ℕ). (there_and_back e us ≡ false) × (count (from fs bs p) us ≡ 0) in
          let is : face l ≡ map (outline c) (wires_at l) = wires_at_lem (wires_in c) (length_split c.wires c.uses) l in
          let q : All Q (face l) = rw is (all_map Listed Q (outline c) (λ w t. (t.0.1, t.1)) (wires_at l) h) in
          let all : All (λ (us : List ℕ). P us × Q us) (face l) =
          all_both P Q (face l) (all_both (λ (us : List ℕ). Ring fs bs us × Simple us) (All (IsUse a)) (face l) (all_both (Ring fs bs) Simple (face l) (ruled l).rings (simple_each (face l) (ruled l).once)) (named l)) q in (
            all_weaker (λ (us : List ℕ). P us × Q us) IsClear (λ us t. clear us t.0.0.0 t.0.1 t.1.1) (face l) all,
            face_cut l (all_weaker Listed (λ (w : ℕ). has w (wires_of c n) ≡ true) (λ w t. t.0.0) (wires_at l) h)
                ∙ map_same (cut_first e a) (halved e a) (face l)
                (all_weaker (λ (us : List ℕ). P us × Q us) (λ (us : List ℕ). cut_first e a us ≡ halved e a us) (λ us t. cut_halved e a us (gone us t.0.1 t.0.0.1 ∙ t.1.0)) (face l) all),
          )

      -- what its listings show
      abbrev Shown : ℕ → Type 0
      Shown l = All IsClear (shown_wires (outlines c) l) × (shown_wires (outlines after) l ≡ map (halved e a) (shown_wires (outlines c) l))

      shown : (l : ℕ) → All Listed (wires_at l) → Shown l
      shown l h =
          let r = face_clear l h in (
            all_map IsClear IsClear (shown_wire l) (clear_shown l) (face l) r.0,
            ap (map (shown_wire l)) r.1
                ∙ map-map (shown_wire l) (halved e a) (face l)
                ∙ map_same (λ (us : List ℕ). shown_wire l (halved e a us)) (λ (us : List ℕ). halved e a (shown_wire l us)) (face l)
                (all_weaker IsClear (λ (us : List ℕ). shown_wire l (halved e a us) ≡ halved e a (shown_wire l us))
                (λ us t. shown_halved e a may.edge (omega (arith, few)) l us (all_weaker IsApart (λ (u : ℕ). u < 65536) (λ u k. k.low) us t.1)) (face l) r.0)
                ∙ sym (map-map (halved e a) (shown_wire l) (face l)),
          )

      pub listings_shown : All (λ (l : ℕ). All (Clear (length c.edges) p (length c.points) (front_in c) (back_in c)) (shown_wires (outlines c) l)
          × (shown_wires (outlines (cut_content c n e p at)) l ≡ map (halved e (length c.edges)) (shown_wires (outlines c) l))) (listings_of c n)
      listings_shown = all_weaker (λ (l : ℕ). All Listed (wires_at l)) Shown shown (listings_of c n) all_listed

      pub faces_clear : All (All (Clear (length c.edges) p (length c.points) (front_in c) (back_in c))) (shell_faces c n)
      faces_clear = all_map Shown (All IsClear) (shown_wires (outlines c)) (λ l h. h.0) (listings_of c n) listings_shown

      pub faces_halved : shell_faces (cut_content c n e p at) n ≡ map (map (halved e (length c.edges))) (shell_faces c n)
      faces_halved =
          map_same (shown_wires (outlines after)) (λ (l : ℕ). map (halved e a) (shown_wires (outlines c) l)) (listings_of c n)
          (all_weaker Shown (λ (l : ℕ). shown_wires (outlines after) l ≡ map (halved e a) (shown_wires (outlines c) l)) (λ l h. h.1) (listings_of c n) listings_shown)
          ∙ sym (map-map (map (halved e a)) (shown_wires (outlines c)) (listings_of c n))

      pub wires_halved : shell_wires (cut_content c n e p at) n ≡ map (halved e (length c.edges)) (shell_wires c n)
      unfolding shell_wires
      wires_halved = ap flat faces_halved ∙ flat_map (halved e a) (shell_faces c n)

      pub uses_halved : shell_uses (cut_content c n e p at) n ≡ halved e (length c.edges) (shell_uses c n)
      uses_halved = ap flat wires_halved ∙ flat_made (halve e a) (shell_wires c n)
