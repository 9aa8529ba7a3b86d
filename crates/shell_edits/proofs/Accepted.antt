-- When a changed content is accepted: more edges without fault, and wires that obey the face rule over the longer tables.
use Prim.Native.Nat.{◌+◌, ◌<◌, ◌≤◌, suc, ℕ}
use mathlib.Core.Bool.{◌&&◌, false, not, true}
use mathlib.Core.List.{List, [], ◌++◌, ◌∷◌, append_assoc, map, map-append}
use mathlib.Core.Logic.{⊎_elim}
use mathlib.Core.Path.{◌∙◌, ◌≡◌, refl}
use native.Mathlib.Omega.{arith}
use lib.Dec.{eqb, ltb}
use lib.ListN.{get_or-append, get_or, length, length-append, length-map}
use borrow.Author.Tests.{eq-eqb, eqb-true, lt-ltb, ltb-false, ltb-true, not-true}
use Rattle.edge.specs.Edges.{back_number, front_number, is_span}
use Rattle.edge.specs.Uses.{back_of, edge_number, front_of}
use Rattle.edge.specs.declared.Edge.{Edge}
use Rattle.errors.proofs.Laws.{each_none, each_record, none_both, none_left, none_right, unless_passes}
use Rattle.errors.specs.Faults.{each}
use Rattle.errors.specs.declared.Refusal.TheVariants.{SameVertex, Span, Unnamed, Wire}
use Rattle.errors.specs.declared.Refusal.{Refusal}
use Rattle.errors.specs.declared.WireError.TheVariants.{NotSimpleWire}
use Rattle.face.proofs.Laws.{none_mapped}
use Rattle.face.specs.Faces.{face_faults, face_rule, outline_faults, shared_faults, wire_count}
use Rattle.lists.proofs.Alike.{bit_none, has_count, no_dup_count}
use Rattle.lists.proofs.Count.{All, count_append}
use Rattle.lists.proofs.Laws.{cases, left_true, right_true}
use Rattle.lists.proofs.Parts.{all_place, split_flat}
use Rattle.lists.specs.Lists.{count, disjoint, flat, has, split, sum, unless}
use Rattle.pattern.proofs.Named.{faces_summed}
use Rattle.pattern.proofs.Passed.{RecordsPassed, content_passed, passed_records, records_passed}
use Rattle.pattern.specs.Checks.{content_faults, edge_faults, name_faults, outlines, record_faults, sum_faults}
use Rattle.pattern.specs.Contents.{Content, zero_edge}
use Rattle.shell.proofs.Chain.{from}
use Rattle.shell.proofs.Rings.{points_count, rings_ruled}
use Rattle.shell.proofs.Walked.{Ring}
use Rattle.shell_edits.specs.Edits.{edge_at, edited}
use Rattle.wire.proofs.Laws.{faultless_no_dup, faultless_sound}
use Rattle.wire.specs.Wires.{points, wire_faults}

-- the checks of a row of two lists
pub each_append {ℓ} : {A : Type ℓ} (f : ℕ → A → List Refusal) (i : ℕ) (xs ys : List A) → each f i (xs ++ ys) ≡ each f i xs ++ each f (i + length xs) ys
unfolding each
each_append f i [] ys = let e : i + 0 ≡ i = omega arith in rw e
each_append f i (x ∷ xs) ys =
    let e : i + suc (length xs) ≡ suc i + length xs = omega arith in
    rw (e, each_append f (suc i) xs ys, append_assoc)

pub sum_lengths {ℓ} : {A : Type ℓ} (xss : List (List A)) → sum (map length xss) ≡ length (flat xss)
unfolding sum flat
sum_lengths [] = refl
sum_lengths (xs ∷ xss) = omega (arith, sum_lengths xss, length-append xs (flat xss))

-- ---- the ends of a use in longer tables

get_d_longer : (xs ys : List ℕ) (u : ℕ) → edge_number u < length xs → get_or (xs ++ ys) (edge_number u) 0 ≡ get_or xs (edge_number u) 0
get_d_longer xs ys u h = get_or-append xs ys 0 (edge_number u) h

-- a use that both tables have begins where it did
pub front_longer : (fronts backs more others : List ℕ) (u : ℕ) → edge_number u < length fronts → edge_number u < length backs
    → front_of (fronts ++ more) (backs ++ others) u ≡ front_of fronts backs u
unfolding front_of
front_longer fronts backs more others u h k = rw (get_d_longer fronts more u h, get_d_longer backs others u k)

module _ (c : Content) (es : List Edge) where
  -- the ends of the edges of c, and of those with more edges
  abbrev pub fronts : List ℕ
  fronts = map front_number c.edges

  abbrev pub backs : List ℕ
  backs = map back_number c.edges

  abbrev pub new_fronts : List ℕ
  new_fronts = map front_number (c.edges ++ es)

  abbrev pub new_backs : List ℕ
  new_backs = map back_number (c.edges ++ es)

  -- a use of an old edge begins and ends where it did
  pub old_front : (u : ℕ) → edge_number u < length c.edges → front_of new_fronts new_backs u ≡ front_of fronts backs u
  old_front u h =
      rw (map-append front_number c.edges es, map-append back_number c.edges es)
      (front_longer fronts backs (map front_number es) (map back_number es) u (rw (length-map c.edges front_number) h) (rw (length-map c.edges back_number) h))

  pub old_back : (u : ℕ) → edge_number u < length c.edges → back_of new_fronts new_backs u ≡ back_of fronts backs u
  old_back u h =
      rw (map-append front_number c.edges es, map-append back_number c.edges es)
      (front_longer backs fronts (map back_number es) (map front_number es) u (rw (length-map c.edges back_number) h) (rw (length-map c.edges front_number) h))

module _ (c : Content) (ok : content_faults c ≡ []) where
  pub records_fine : record_faults c ≡ []
  records_fine = (content_passed c ok).records

  pub rule_fine : face_rule (map front_number c.edges) (map back_number c.edges) 0 (outlines c) ≡ []
  rule_fine = (content_passed c ok).rule

  passed : RecordsPassed c
  passed = records_passed c records_fine

  pub edges_fine : each (edge_faults (length c.points)) 0 c.edges ≡ []
  edges_fine = passed.edges

  -- an edge's curve is a span
  pub edge_span : (k : ℕ) → k < length c.edges → is_span (edge_at c k).curve ≡ true
  edge_span k h =
      let d = edge_at c k in
      let m = length c.points in
      unless_passes (is_span d.curve) (Span (0 + k))
      (none_right
      (unless (ltb (front_number d) m && ltb (back_number d) m) (Unnamed 1 (0 + k)) ++ unless (not (eqb (front_number d) (back_number d))) (SameVertex (0 + k)))
      (unless (is_span d.curve) (Span (0 + k)))
      (each_record (edge_faults m) zero_edge 0 c.edges edges_fine k h))

  -- more edges, and as many wires as before, given by their uses
  module _ (es : List Edge) (ws : List (List ℕ)) (edges : each (edge_faults (length c.points)) (length c.edges) es ≡ []) (long : length ws ≡ length c.wires)
      (named : All (λ (u : ℕ). edge_number u < length (c.edges ++ es)) (flat ws)) where
    new_edges : each (edge_faults (length c.points)) 0 (c.edges ++ es) ≡ []
    new_edges =
        let z : 0 + length c.edges ≡ length c.edges = omega arith in
        each_append (edge_faults (length c.points)) 0 c.edges es
        ∙ none_both (each (edge_faults (length c.points)) 0 c.edges) (each (edge_faults (length c.points)) (0 + length c.edges) es) edges_fine (rw z edges)

    new_uses : each (name_faults 2 (length (c.edges ++ es))) 0 (flat ws) ≡ []
    new_uses =
        let P : ℕ → Type 0 = λ (u : ℕ). edge_number u < length (c.edges ++ es) in
        each_none (name_faults 2 (length (c.edges ++ es))) 0 0 (flat ws)
        (λ k h. rw (lt-ltb (edge_number (get_or (flat ws) k 0)) (length (c.edges ++ es)) (all_place P 0 (flat ws) named k h)))

    new_wires : sum_faults 3 (map length ws) (length (flat ws)) ≡ []
    new_wires = rw (eq-eqb (sum (map length ws)) (length (flat ws)) (sum_lengths ws))

    new_faces : sum_faults 4 (map wire_count c.faces) (length (map length ws)) ≡ []
    new_faces =
        let counts = map wire_count c.faces in
        rw (eq-eqb (sum counts) (length (map length ws)) (omega (arith, faces_summed c records_fine, length-map ws length, long)))

    new_records : record_faults (edited c es (flat ws) (map length ws)) ≡ []
    new_records =
        passed_records (edited c es (flat ws) (map length ws))
        (record { edges = new_edges; uses = new_uses; wires = new_wires; faces = new_faces; shells = passed.shells; listings = passed.listings })

    pub edited_accepted : face_rule (map front_number (c.edges ++ es)) (map back_number (c.edges ++ es)) 0 (split (map wire_count c.faces) ws) ≡ []
        → content_faults (edited c es (flat ws) (map length ws)) ≡ []
    edited_accepted rule =
        none_both (record_faults (edited c es (flat ws) (map length ws))) _ new_records (rw (split_flat ws) rule)

-- ---- the face rule in numbers: every wire has a use and is closed, and at each point of a face one use begins at most

module _ (fs bs : List ℕ) where
  pub record Ruled (wires : List (List ℕ)) : Type 0 where
    pub rings : All (Ring fs bs) wires
    pub once : (q : ℕ) → count (from fs bs q) (flat wires) ≤ 1

  outlined_rings : (w : ℕ) (wires : List (List ℕ)) → each (outline_faults fs bs) w wires ≡ [] → All (Ring fs bs) wires
  unfolding each
  outlined_rings w [] e = tt
  outlined_rings w (us ∷ wires) e =
      let sound = faultless_sound fs bs us (none_mapped w (wire_faults fs bs us) (none_left (outline_faults fs bs w us) (each (outline_faults fs bs) (suc w) wires) e)) in
      ((sound.used, sound.loops), outlined_rings (suc w) wires (none_right (outline_faults fs bs w us) (each (outline_faults fs bs) (suc w) wires) e))

  -- a point of a list is no point of one that is disjoint from it
  disjoint_count : (xs ys : List ℕ) → disjoint xs ys ≡ true → (q : ℕ) → count (eqb q) ys ≤ 1 → 0 < count (eqb q) xs → count (eqb q) ys ≡ 0
  unfolding disjoint count
  disjoint_count [] ys h q k l = absurd (omega arith)
  disjoint_count (x ∷ xs) ys h q k l =
      ⊎_elim
      (λ (e : eqb q x ≡ true).
      let z = eqb-true q x e in
      let none : has q ys ≡ false = rw z (not-true (has x ys) (left_true (not (has x ys)) (disjoint xs ys) h)) in
      rw none at (has_count q ys k))
      (λ (e : eqb q x ≡ false). disjoint_count xs ys (right_true (not (has x ys)) (disjoint xs ys) h) q k (omega (arith, bit_none q x e)))
      (cases (eqb q x))

  both_once : (xs ys : List ℕ) (q : ℕ) → disjoint xs ys ≡ true → count (eqb q) xs ≤ 1 → count (eqb q) ys ≤ 1 → count (eqb q) ys + count (eqb q) xs ≤ 1
  both_once xs ys q d h k =
      ⊎_elim
      (λ (e : ltb 0 (count (eqb q) xs) ≡ true). omega (arith, disjoint_count xs ys d q k (ltb-true 0 (count (eqb q) xs) e)))
      (λ (e : ltb 0 (count (eqb q) xs) ≡ false). omega (arith, ltb-false 0 (count (eqb q) xs) e))
      (cases (ltb 0 (count (eqb q) xs)))

  shared_once : (earlier : List ℕ) (w : ℕ) (wires : List (List ℕ)) → each (outline_faults fs bs) w wires ≡ [] → shared_faults fs bs earlier w wires ≡ []
      → ((q : ℕ) → count (eqb q) earlier ≤ 1) → (q : ℕ) → count (eqb q) earlier + count (from fs bs q) (flat wires) ≤ 1
  unfolding each shared_faults flat count
  shared_once earlier w [] e s h q = omega (arith, h q)
  shared_once earlier w (us ∷ wires) e s h q =
      let ps = points fs bs us in
      let none = none_left (outline_faults fs bs w us) (each (outline_faults fs bs) (suc w) wires) e in
      let simple = faultless_no_dup fs bs us (none_mapped w (wire_faults fs bs us) none) in
      let apart = unless_passes (disjoint ps earlier) (Wire w NotSimpleWire) (none_left _ (shared_faults fs bs (earlier ++ ps) (suc w) wires) s) in
      let rest = shared_once (earlier ++ ps) (suc w) wires (none_right (outline_faults fs bs w us) (each (outline_faults fs bs) (suc w) wires) e)
      (none_right (unless (disjoint ps earlier) (Wire w NotSimpleWire)) (shared_faults fs bs (earlier ++ ps) (suc w) wires) s)
      (λ r. omega (arith, count_append (eqb r) earlier ps, both_once ps earlier r apart (no_dup_count ps simple r) (h r))) q in
      omega (arith, rest, count_append (eqb q) earlier ps, points_count fs bs us q, count_append (from fs bs q) us (flat wires))

  pub face_ruled : (w : ℕ) (wires : List (List ℕ)) → face_faults fs bs w wires ≡ [] → Ruled wires
  unfolding count
  face_ruled w wires e =
      let alone = none_left (each (outline_faults fs bs) w wires) (shared_faults fs bs [] w wires) e in
      let shared = none_right (each (outline_faults fs bs) w wires) (shared_faults fs bs [] w wires) e in
      record { rings = outlined_rings w wires alone; once = λ q. omega (arith, shared_once [] w wires alone shared (λ r. omega arith) q) }

  pub ruled_face : (w : ℕ) (wires : List (List ℕ)) → Ruled wires → face_faults fs bs w wires ≡ []
  ruled_face w wires r = rings_ruled fs bs w wires r.rings r.once

  -- face by face
  pub rule_ruled : (w : ℕ) (faces : List (List (List ℕ))) → face_rule fs bs w faces ≡ [] → All Ruled faces
  unfolding face_rule
  rule_ruled w [] e = tt
  rule_ruled w (wires ∷ faces) e = (
    face_ruled w wires (none_left (face_faults fs bs w wires) (face_rule fs bs (w + length wires) faces) e),
    rule_ruled (w + length wires) faces (none_right (face_faults fs bs w wires) (face_rule fs bs (w + length wires) faces) e),
  )

  pub ruled_rule : (w : ℕ) (faces : List (List (List ℕ))) → All Ruled faces → face_rule fs bs w faces ≡ []
  unfolding face_rule
  ruled_rule w [] h = refl
  ruled_rule w (wires ∷ faces) h =
      none_both (face_faults fs bs w wires) (face_rule fs bs (w + length wires) faces) (ruled_face w wires h.0) (ruled_rule (w + length wires) faces h.1)
