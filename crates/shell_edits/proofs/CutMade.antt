-- What a cut that is not refused makes: a pattern without fault, with the point in the shell.
use Rattle.edge.specs.declared.Curve.{Curve}
use Rattle.std.specs.Prelude.{None, Option, Some}
use Prim.Native.Nat.{◌+◌, ◌<◌, ◌≤◌, suc, ℕ}
use mathlib.Core.Bool.{Bool, ◌&&◌, false, not, true, true≢false}
use mathlib.Core.List.{List, [], ◌++◌, ◌∷◌, map, map-append}
use mathlib.Core.Path.{◌∙◌, ◌≡◌, ap, refl, sym}
use native.Mathlib.Omega.{arith}
use lib.Dec.{eqb, ltb}
use lib.ListN.{get_or-map, get_or, length, length-append, length-map, take}
use borrow.Author.Tests.{eq-eqb, leb-true, lt-ltb, ltb-false, ltb-true, ne_eqb, not-true}
use Rattle.curve.proofs.Theorem.{are_spans, cut_spans}
use Rattle.curve.specs.Curves.{cut_curve}
use Rattle.curve.specs.declared.Parameter.{Parameter}
use Rattle.edge.specs.Edges.{back_number, edge, front_number, is_span}
use Rattle.edge.specs.Uses.{edge_number, front_of}
use Rattle.edge.specs.declared.Edge.{Edge}
use Rattle.edit_answers.specs.declared.EditError.TheVariants.{CurveRefuses, EdgeNotInShell, NoSpace, SharedFace, Unnamed, VertexInShell}
use Rattle.edit_answers.specs.declared.EditError.{EditError}
use Rattle.errors.proofs.Laws.{each_record, none_left, none_right, unless_passes}
use Rattle.errors.specs.Faults.{each}
use Rattle.errors.specs.declared.Refusal.TheVariants.{SameVertex, Span, Unnamed as NotNamed}
use Rattle.errors.specs.declared.Refusal.{Refusal}
use Rattle.face.specs.Faces.{face_rule, wire_count}
use Rattle.lists.proofs.Count.{All, all_at, all_each, all_split, all_weaker, bit, count_append, count_same}
use Rattle.lists.proofs.Laws.{left_true, length_split, right_true}
use Rattle.lists.proofs.Marks.{AllBelow}
use Rattle.lists.proofs.Parts.{all_flat, flat_split, map_same, split_flat}
use Rattle.lists.specs.Lists.{count, flat, has, numbers, only, pick, split, sum, unless}
use Rattle.pattern.proofs.Named.{faces_summed, use_named, wires_summed}
use Rattle.pattern.specs.Checks.{content_faults, edge_faults, outlines}
use Rattle.pattern.specs.Contents.{Content, zero_edge}
use Rattle.shell.proofs.Chain.{from, to}
use Rattle.shell.proofs.Level.{Level, closed_level}
use Rattle.shell.proofs.Walked.{Ring}
use Rattle.shell.specs.Openings.{front_in}
use Rattle.shell.specs.Shells.{listings_of}
use Rattle.shell_edits.proofs.Accepted.{Ruled, edge_span, edges_fine, edited_accepted, records_fine, rule_fine, rule_ruled, ruled_rule}
use Rattle.shell_edits.proofs.Cut.{Old, Tables, back_cut, change, change_none, changed, changed_counted, count_cut, cut_first_lem, cut_backs, cut_first, cut_fronts, ends_begin, faces_cut, has_counts, has_edge, length_each, named_each}
use Rattle.shell_edits.proofs.Wires.{all_has, each_at, each_long, face_listed, has_flat, length_counted, none_flat}
use Rattle.shell_edits.specs.Edits.{cut_content, cut_faults, cut_wire, cut_wires, each_wire, edge_at, listed_wires, outline, room_for_edges, room_for_uses, shares_face, uses_in, wires_in, wires_of}
use Rattle.shell_edits.specs.NewEdges.{half_edges, is_cut}
use Rattle.shell_edits.specs.Theorems.{OnlyNoRoom, first_number, others, some_there_and_back, wires_with}
use Rattle.wire.specs.Wires.{closed}

each_two {ℓ} : {A : Type ℓ} (f : ℕ → A → List Refusal) (i : ℕ) (x y : A) → f i x ≡ [] → f (suc i) y ≡ [] → each f i (x ∷ y ∷ []) ≡ []
unfolding each
each_two f i x y a b = rw (a, b)

-- ---- the refusals in sequence

abbrev refusals : Bool → Bool → Bool → Bool → Bool → Bool → List EditError
refusals named apart fresh there curve room =
    unless named Unnamed ++ (unless apart SharedFace ++ unless fresh VertexInShell ++ unless there EdgeNotInShell ++ unless curve CurveRefuses ++ unless room NoSpace)

cons_none : {x : EditError} {es : List EditError} → x ∷ es ≡ [] → ⊥
cons_none h = omega (arith, ap length h)

first_refusal : (a b c d e f : Bool) → first_number (refusals a b c d e f) ≡ pick a (pick b (pick c (pick d (pick e (pick f 0 17) 16) 15) 14) 27) 3
first_refusal false b c d e f = refl
first_refusal true false c d e f = refl
first_refusal true true false d e f = refl
first_refusal true true true false e f = refl
first_refusal true true true true false f = refl
first_refusal true true true true true false = refl
first_refusal true true true true true true = refl

-- 17 comes first exactly if it is alone
only_room : (a b c d e f : Bool)
    → (first_number (refusals a b c d e f) ≡ 17 → (others (refusals a b c d e f) ≡ []) × (f ≡ false)) × ((others (refusals a b c d e f) ≡ []) × (f ≡ false) → first_number (refusals a b c d e f) ≡ 17)
unfolding only
only_room false b c d e f = (λ h. absurd (omega (arith, h)), λ h. absurd (cons_none h.0))
only_room true false c d e f = (λ h. absurd (omega (arith, h)), λ h. absurd (cons_none h.0))
only_room true true false d e f = (λ h. absurd (omega (arith, h)), λ h. absurd (cons_none h.0))
only_room true true true false e f = (λ h. absurd (omega (arith, h)), λ h. absurd (cons_none h.0))
only_room true true true true false f = (λ h. absurd (omega (arith, h)), λ h. absurd (cons_none h.0))
only_room true true true true true false = (λ h. (refl, refl), λ h. refl)
only_room true true true true true true = (λ h. absurd (omega (arith, h)), λ h. absurd (true≢false h.1))

-- the tests of a cut
module _ (c : Content) (n e p : ℕ) (at : Parameter) where
  abbrev is_named : Bool
  is_named = ltb n (length c.shells) && ltb e (length c.edges) && ltb p (length c.points)

  abbrev is_fresh : Bool
  is_fresh = not (has p (map (front_in c) (uses_in c n)))

  abbrev is_there : Bool
  is_there = has e (map edge_number (uses_in c n))

  abbrev curve_cut : Bool
  curve_cut = is_cut (cut_curve (edge_at c e).curve at)

  abbrev has_room : Bool
  has_room = room_for_edges (length c.edges + 2) && room_for_uses (length (flat (cut_wires c n e)))

  answer_is : first_number (cut_faults c n e p at) ≡ pick is_named (pick (not (shares_face c n)) (pick is_fresh (pick is_there (pick curve_cut (pick has_room 0 17) 16) 15) 14) 27) 3
  answer_is = first_refusal is_named (not (shares_face c n)) is_fresh is_there curve_cut has_room

pub record Passed (a b c d e f : Bool) : Type 0 where
  pub named : a ≡ true
  pub apart : b ≡ true
  pub fresh : c ≡ true
  pub there : d ≡ true
  pub curve : e ≡ true
  pub room : f ≡ true

passed : (a b c d e f : Bool) → refusals a b c d e f ≡ [] → Passed a b c d e f
passed a b c d e f h =
    let two = unless b SharedFace ++ unless c VertexInShell in
    let three = two ++ unless d EdgeNotInShell in
    let four = three ++ unless e CurveRefuses in
    let later : four ++ unless f NoSpace ≡ [] = none_right (unless a Unnamed) (four ++ unless f NoSpace) h in
    let none₄ = none_left four (unless f NoSpace) later in
    let none₃ = none_left three (unless e CurveRefuses) none₄ in
    let none₂ = none_left two (unless d EdgeNotInShell) none₃ in record {
      named = unless_passes a Unnamed (none_left (unless a Unnamed) (four ++ unless f NoSpace) h);
      apart = unless_passes b SharedFace (none_left (unless b SharedFace) (unless c VertexInShell) none₂);
      fresh = unless_passes c VertexInShell (none_right (unless b SharedFace) (unless c VertexInShell) none₂);
      there = unless_passes d EdgeNotInShell (none_right two (unless d EdgeNotInShell) none₃);
      curve = unless_passes e CurveRefuses (none_right three (unless e CurveRefuses) none₄);
      room = unless_passes f NoSpace (none_right four (unless f NoSpace) later);
    }

-- ---- the wires of a pattern without fault
module _ (c : Content) (ok : content_faults c ≡ []) where
  abbrev fs : List ℕ
  fs = map front_number c.edges

  abbrev bs : List ℕ
  bs = map back_number c.edges

  abbrev counts : List ℕ
  counts = map wire_count c.faces

  fronts_long : length fs ≡ length c.edges
  fronts_long = length-map c.edges front_number

  wires_long : length (wires_in c) ≡ length c.wires
  wires_long = length_split c.wires c.uses

  wires_in_faces : sum counts ≡ length (wires_in c)
  wires_in_faces = faces_summed c (records_fine c ok) ∙ sym wires_long

  faces_ruled : All (Ruled fs bs) (outlines c)
  faces_ruled = rule_ruled fs bs 0 (outlines c) (rule_fine c ok)

  -- a claim of the wires of every face is one of all wires
  of_faces : (P : List ℕ → Type 0) → All (All P) (outlines c) → All P (wires_in c)
  of_faces P h = rw (flat_split counts (wires_in c) wires_in_faces) at (all_flat P (outlines c) h)

  rings : All (Ring fs bs) (wires_in c)
  rings = of_faces (Ring fs bs) (all_weaker (Ruled fs bs) (All (Ring fs bs)) (λ ws r. r.rings) (outlines c) faces_ruled)

  uses_old : All (λ (u : ℕ). edge_number u < length fs) c.uses
  uses_old = all_each (λ (u : ℕ). edge_number u < length fs) 0 c.uses (λ k h. rw fronts_long (use_named c (records_fine c ok) k h))

  wires_old : All (All (λ (u : ℕ). edge_number u < length fs)) (wires_in c)
  wires_old = all_split (λ (u : ℕ). edge_number u < length fs) c.wires c.uses uses_old

  outline_closed : (w : ℕ) → closed fs bs (outline c w) ≡ true
  unfolding closed
  outline_closed w =
      all_at (λ (us : List ℕ). closed fs bs us ≡ true) [] refl (wires_in c)
      (all_weaker (Ring fs bs) (λ (us : List ℕ). closed fs bs us ≡ true) (λ us r. r.1) (wires_in c) rings) w

  level_of : (ws : List ℕ) → Level fs bs (flat (map (outline c) ws))
  unfolding flat count
  level_of [] q = refl
  level_of (w ∷ ws) q =
      let us = outline c w in
      let rest = flat (map (outline c) ws) in
      omega (arith, count_append (from fs bs q) us rest, count_append (to fs bs q) us rest, closed_level fs bs us (outline_closed w) q, level_of ws q)

  -- ---- a cut that is not refused
  module _ (n e p : ℕ) (at : Parameter) (cut : cut_faults c n e p at ≡ []) where
    tests : Passed (is_named c n e p at) (not (shares_face c n)) (is_fresh c n e p at) (is_there c n e p at) (curve_cut c n e p at) (has_room c n e p at)
    tests = passed (is_named c n e p at) (not (shares_face c n)) (is_fresh c n e p at) (is_there c n e p at) (curve_cut c n e p at) (has_room c n e p at) cut

    -- no face of the shell is listed in another
    pub own_faces : shares_face c n ≡ false
    own_faces = not-true (shares_face c n) tests.apart

    pub edge_inside : e < length c.edges
    edge_inside =
        ltb-true e (length c.edges)
        (right_true (ltb n (length c.shells)) (ltb e (length c.edges))
        (left_true (ltb n (length c.shells) && ltb e (length c.edges)) (ltb p (length c.points)) tests.named))

    pub uses_few : length (flat (cut_wires c n e)) ≤ 4096
    uses_few = leb-true (length (flat (cut_wires c n e))) 4096 (right_true (room_for_edges (length c.edges + 2)) (room_for_uses (length (flat (cut_wires c n e)))) tests.room)

    point_inside : p < length c.points
    point_inside = ltb-true p (length c.points) (right_true (ltb n (length c.shells) && ltb e (length c.edges)) (ltb p (length c.points)) tests.named)

    pub edges_few : length c.edges + 2 ≤ 1024
    edges_few = leb-true (length c.edges + 2) 1024 (left_true (room_for_edges (length c.edges + 2)) (room_for_uses (length (flat (cut_wires c n e)))) tests.room)

    tables : Tables fs bs e p
    tables = record {
      alike = length-map c.edges back_number ∙ sym fronts_long;
      inside = rw fronts_long edge_inside;
      few = omega (arith, fronts_long, edges_few);
    }

    -- no use of the shell begins at the point
    fresh : count (from fs bs p) (uses_in c n) ≡ 0
    fresh =
        let none : ltb 0 (count (from fs bs p) (uses_in c n)) ≡ false = sym (has_counts (front_in c) p (uses_in c n)) ∙ not-true (has p (map (front_in c) (uses_in c n))) tests.fresh in
        omega (arith, ltb-false 0 (count (from fs bs p) (uses_in c n)) none)

    -- it differs from both ends of the edge
    ends : (0 < count (from fs bs (get_or fs e 0)) (uses_in c n)) × (0 < count (from fs bs (get_or bs e 0)) (uses_in c n))
    ends = ends_begin fs bs e p tables (uses_in c n) (level_of (wires_of c n)) tests.there

    not_front : eqb (get_or fs e 0) p ≡ false
    not_front = ne_eqb (get_or fs e 0) p (λ z. let l : 0 < count (from fs bs p) (uses_in c n) = rw z at ends.0 in omega (arith, l, fresh))

    not_back : eqb p (get_or bs e 0) ≡ false
    not_back = ne_eqb p (get_or bs e 0) (λ z. let l : 0 < count (from fs bs p) (uses_in c n) = rw (← z) at ends.1 in omega (arith, l, fresh))

    -- the wires of the shell, and the changed wires as the laws have them
    abbrev in_shell : ℕ → Bool
    in_shell w = has w (wires_of c n)

    abbrev cut_wires_lem : List (List ℕ)
    cut_wires_lem = each_wire (change e (length fs) in_shell) 0 (wires_in c)

    wires_are : cut_wires c n e ≡ cut_wires_lem
    wires_are = ap (λ (a : ℕ). each_wire (λ (w : ℕ) (us : List ℕ). pick (in_shell w) (cut_wire e a us) us) 0 (wires_in c)) (sym fronts_long)

    pub cut_long : length (cut_wires c n e) ≡ length c.wires
    cut_long = ap length wires_are ∙ each_long (change e (length fs) in_shell) 0 (wires_in c) ∙ wires_long

    abbrev halves : Option (Curve × Curve)
    halves = cut_curve (edge_at c e).curve at

    abbrev new_edges : List Edge
    new_edges = half_edges (edge_at c e) p halves

    pub two_more : length (c.edges ++ new_edges) ≡ length c.edges + 2
    two_more = omega (arith, length-append c.edges new_edges, go halves tests.curve)
      where
        go : (h : Option (Curve × Curve)) → is_cut h ≡ true → length (half_edges (edge_at c e) p h) ≡ 2
        go None h = absurd (true≢false (sym h))
        go (Some (k, l)) h = refl

    fronts_are : map front_number (c.edges ++ new_edges) ≡ cut_fronts fs bs e p
    fronts_are = go halves tests.curve
      where
        go : (h : Option (Curve × Curve)) → is_cut h ≡ true → map front_number (c.edges ++ half_edges (edge_at c e) p h) ≡ cut_fronts fs bs e p
        go None h = absurd (true≢false (sym h))
        go (Some (k, l)) h =
            let z : get_or fs e 0 ≡ front_number (edge_at c e) = get_or-map front_number c.edges e zero_edge in
            rw z (map-append front_number c.edges (half_edges (edge_at c e) p (Some (k, l))))

    backs_are : map back_number (c.edges ++ new_edges) ≡ cut_backs fs bs e p
    backs_are = go halves tests.curve
      where
        go : (h : Option (Curve × Curve)) → is_cut h ≡ true → map back_number (c.edges ++ half_edges (edge_at c e) p h) ≡ cut_backs fs bs e p
        go None h = absurd (true≢false (sym h))
        go (Some (k, l)) h =
            let z : get_or bs e 0 ≡ back_number (edge_at c e) = get_or-map back_number c.edges e zero_edge in
            rw z (map-append back_number c.edges (half_edges (edge_at c e) p (Some (k, l))))

    ends_named : (front_number (edge_at c e) < length c.points) × (back_number (edge_at c e) < length c.points)
    ends_named =
        let d = edge_at c e in
        let m = length c.points in
        let none = each_record (edge_faults m) zero_edge 0 c.edges (edges_fine c ok) e edge_inside in
        let ends_fine = none_left (unless (ltb (front_number d) m && ltb (back_number d) m) (NotNamed 1 (0 + e)) ++ unless (not (eqb (front_number d) (back_number d))) (SameVertex (0 + e))) (unless (is_span d.curve) (Span (0 + e))) none in
        let both = unless_passes (ltb (front_number d) m && ltb (back_number d) m) (NotNamed 1 (0 + e)) (none_left (unless (ltb (front_number d) m && ltb (back_number d) m) (NotNamed 1 (0 + e))) (unless (not (eqb (front_number d) (back_number d))) (SameVertex (0 + e))) ends_fine) in
        (ltb-true (front_number d) m (left_true (ltb (front_number d) m) (ltb (back_number d) m) both), ltb-true (back_number d) m (right_true (ltb (front_number d) m) (ltb (back_number d) m) both))

    new_edges_fine : each (edge_faults (length c.points)) (length c.edges) new_edges ≡ []
    new_edges_fine = go halves tests.curve (cut_spans (edge_at c e).curve at (edge_span c ok e edge_inside))
      where
        go : (h : Option (Curve × Curve)) → is_cut h ≡ true → are_spans h ≡ true → each (edge_faults (length c.points)) (length c.edges) (half_edges (edge_at c e) p h) ≡ []
        go None h s = absurd (true≢false (sym h))
        go (Some (k, l)) h s =
            let m = length c.points in
            let d = edge_at c e in
            let f : eqb (front_number d) p ≡ false = rw (get_or-map front_number c.edges e zero_edge) at not_front in
            let b : eqb p (back_number d) ≡ false = rw (get_or-map back_number c.edges e zero_edge) at not_back in
            let first : edge_faults m (length c.edges) (edge d.front (record { 0 = p }) k) ≡ [] =
            rw (lt-ltb (front_number d) m ends_named.0, lt-ltb p m point_inside, f, left_true (is_span k) (is_span l) s) in
            let second : edge_faults m (suc (length c.edges)) (edge (record { 0 = p }) d.back l) ≡ [] =
            rw (lt-ltb p m point_inside, lt-ltb (back_number d) m ends_named.1, b, right_true (is_span k) (is_span l) s) in
            each_two (edge_faults m) (length c.edges) (edge d.front (record { 0 = p }) k) (edge (record { 0 = p }) d.back l) first second

    new_rule : face_rule (map front_number (c.edges ++ new_edges)) (map back_number (c.edges ++ new_edges)) 0 (split counts (cut_wires c n e)) ≡ []
    new_rule =
        rw (fronts_are, backs_are, wires_are)
        (ruled_rule (cut_fronts fs bs e p) (cut_backs fs bs e p) 0 (split counts cut_wires_lem)
        (faces_cut fs bs e p tables in_shell counts 0 (wires_in c) (omega (arith, wires_in_faces))
        (all_split (All (Old fs bs e p)) counts (wires_in c) wires_old) faces_ruled
        (λ f k l h.
        let z : 0 + sum (take f counts) + k ≡ sum (take f counts) + k = omega arith in
        fresh_face f k l (rw z at h))))
      where
        fresh_face : (f k : ℕ) → k < get_or counts f 0 → has (sum (take f counts) + k) (wires_of c n) ≡ true → count (from fs bs p) (flat (get_or (outlines c) f [])) ≡ 0
        fresh_face f k l h =
            face_listed counts (wires_in c) (listings_of c n) (from fs bs p) (rw wires_long fresh) f k l (rw wires_long h)

    pub accepted : content_faults (cut_content c n e p at) ≡ []
    accepted =
        edited_accepted c ok new_edges (cut_wires c n e) new_edges_fine cut_long
        (rw (wires_are, two_more, ← fronts_long) (named_each fs bs e p tables in_shell 0 (wires_in c) wires_old))
        new_rule

    -- ---- after the cut
    abbrev after : Content
    after = cut_content c n e p at

    same_wires : wires_of after n ≡ wires_of c n
    same_wires = ap (λ (m : ℕ). listed_wires counts m (listings_of c n)) (length-map (cut_wires c n e) length ∙ cut_long)

    outline_after : (w : ℕ) → in_shell w ≡ true → outline after w ≡ cut_first e (length fs) (outline c w)
    outline_after w h =
        let z : 0 + w ≡ w = omega arith in
        let is : outline after w ≡ change e (length fs) in_shell (0 + w) (outline c w) =
        ap (λ (ws : List (List ℕ)). get_or ws w []) (split_flat (cut_wires c n e) ∙ wires_are)
        ∙ each_at (change e (length fs) in_shell) (change_none e (length fs) in_shell) 0 (wires_in c) w in
        is ∙ rw (z, h) (cut_first_lem e (length fs) (outline c w))

    abbrev cut_outline : ℕ → List ℕ
    cut_outline w = cut_first e (length fs) (outline c w)

    uses_after : uses_in after n ≡ flat (map cut_outline (wires_of c n))
    uses_after =
        ap (λ (ws : List ℕ). flat (map (outline after) ws)) same_wires
        ∙ ap flat (map_same (outline after) cut_outline (wires_of c n)
        (all_weaker (λ (w : ℕ). in_shell w ≡ true) (λ (w : ℕ). outline after w ≡ cut_outline w) outline_after (wires_of c n) (all_has (wires_of c n))))

    named_after : (q : ℕ) → q < length c.points → (ltb n (length c.shells) && ltb e (length (c.edges ++ new_edges)) && ltb q (length c.points)) ≡ true
    named_after q h =
        rw (left_true (ltb n (length c.shells)) (ltb e (length c.edges)) (left_true (ltb n (length c.shells) && ltb e (length c.edges)) (ltb p (length c.points)) tests.named), lt-ltb e (length (c.edges ++ new_edges)) (omega (arith, edge_inside, two_more)), lt-ltb q (length c.points) h)

    outline_old : (w : ℕ) → All (Old fs bs e p) (outline c w)
    outline_old w = all_at (All (Old fs bs e p)) [] tt (wires_in c) wires_old w

    -- the point is now in the shell
    point_in : has p (map (front_in after) (uses_in after n)) ≡ true
    point_in =
        let begins : (w : ℕ) → count (from fs bs p) (outline c w) ≡ 0 → has p (map (front_in after) (cut_outline w)) ≡ has_edge e (outline c w) = λ w none.
        rw (fronts_are, backs_are, has_counts (front_of (cut_fronts fs bs e p) (cut_backs fs bs e p)) p (cut_outline w), count_cut fs bs e p tables p (outline c w) (outline_old w), none, eq-eqb p p refl)
        (positive (has_edge e (outline c w))) in
        rw (uses_after, has_flat (front_in after) cut_outline p (wires_of c n))
        (ap (ltb 0) (count_same (λ (w : ℕ). has p (map (front_in after) (cut_outline w))) (λ (w : ℕ). has_edge e (outline c w)) (wires_of c n)
        (all_weaker (λ (w : ℕ). count (from fs bs p) (outline c w) ≡ 0) (λ (w : ℕ). has p (map (front_in after) (cut_outline w)) ≡ has_edge e (outline c w)) begins (wires_of c n)
        (none_flat (from fs bs p) (outline c) (wires_of c n) fresh)))
        ∙ sym (has_flat edge_number (outline c) e (wires_of c n)) ∙ tests.there)
      where
        positive : (b : Bool) → ltb 0 (0 + bit b) ≡ b
        positive true = refl
        positive false = refl

    pub again : (at' : Parameter) → first_number (cut_faults (cut_content c n e p at) n e p at') ≡ 14
    again at' = answer_is after n e p at' ∙ rw (named_after p point_inside, tests.apart, point_in)

    -- the old edge is in the shell exactly if some wire had it there and back
    module _ (small : AllBelow 65536 c.uses) where
      abbrev Simple : List ℕ → Type 0
      Simple us = (q : ℕ) → count (from fs bs q) us ≤ 1

      face_simple : (ws : List (List ℕ)) → Simple (flat ws) → All Simple ws
      unfolding flat
      face_simple [] h = tt
      face_simple (us ∷ ws) h = (
        λ q. omega (arith, h q, count_append (from fs bs q) us (flat ws)),
        face_simple ws (λ q. omega (arith, h q, count_append (from fs bs q) us (flat ws))),
      )

      outline_simple : (w : ℕ) → Simple (outline c w)
      unfolding count
      outline_simple w =
          all_at Simple [] (λ q. omega arith) (wires_in c)
          (of_faces Simple (all_weaker (Ruled fs bs) (All Simple) (λ ws r. face_simple ws r.once) (outlines c) faces_ruled)) w

      outline_small : (w : ℕ) → All (λ (u : ℕ). u < 65536) (outline c w)
      outline_small w =
          let P : ℕ → Type 0 = λ (u : ℕ). u < 65536 in
          all_at (All P) [] tt (wires_in c) (all_split P c.wires c.uses (all_each P 0 c.uses small)) w

      edge_stays : has e (map edge_number (uses_in after n)) ≡ some_there_and_back c n e
      edge_stays =
          rw (uses_after, has_flat edge_number cut_outline e (wires_of c n))
          (λ i. ltb 0 (count (λ (w : ℕ). back_cut fs bs e p tables (outline c w) (outline_small w) (outline_simple w) i) (wires_of c n)))

      pub old_edge : (q : ℕ) (at' : Parameter) → q < length c.points → has q (map (front_in (cut_content c n e p at)) (uses_in (cut_content c n e p at) n)) ≡ false
          → eqb (first_number (cut_faults (cut_content c n e p at) n e q at')) 15 ≡ not (some_there_and_back c n e)
      old_edge q at' h out =
          ap (λ (k : ℕ). eqb k 15) (answer_is after n e q at')
          ∙ rw (named_after q h, tests.apart, out, edge_stays)
          (go (some_there_and_back c n e) (curve_cut after n e q at') (has_room after n e q at'))
        where
          go : (d k r : Bool) → eqb (pick d (pick k (pick r 0 17) 16) 15) 15 ≡ not d
          go true true true = refl
          go true true false = refl
          go true false r = refl
          go false k r = refl

  -- the use list grows by the stored wires of the shell with the edge
  pub grows : (n e : ℕ) → length (flat (cut_wires c n e)) ≡ length c.uses + length (wires_with c n e)
  grows n e =
      let s : ℕ → Bool = λ (w : ℕ). has w (wires_of c n) in
      let q : ℕ → Bool = λ (w : ℕ). s w && has e (map edge_number (outline c w)) in
      let a = length c.edges in
      let all : length (flat (wires_in c)) ≡ length c.uses = ap length (flat_split c.wires c.uses (wires_summed c (records_fine c ok))) in
      let z : (k : ℕ) → 0 + k ≡ k = λ k. omega arith in
      let few : changed e a s 0 (wires_in c) ≡ count q (numbers (length c.wires)) =
      changed_counted e a s 0 (wires_in c)
      ∙ (λ i. count (λ (k : ℕ). s (z k i) && has_edge e (outline c k)) (numbers (length (wires_in c))))
      ∙ ap (λ (m : ℕ). count q (numbers m)) wires_long in
      omega (arith, length_each e a s 0 (wires_in c), all, few, length_counted q (numbers (length c.wires)))

  pub no_space : (n e p : ℕ) (at : Parameter)
      → (first_number (cut_faults c n e p at) ≡ 17 → OnlyNoRoom c n e (cut_faults c n e p at)) × (OnlyNoRoom c n e (cut_faults c n e p at) → first_number (cut_faults c n e p at) ≡ 17)
  no_space n e p at =
      rw (← grows n e) (only_room (is_named c n e p at) (not (shares_face c n)) (is_fresh c n e p at) (is_there c n e p at) (curve_cut c n e p at) (has_room c n e p at))
