-- What records without fault say: uses name edges, edges name points, the sums are right.
use Prim.Native.Nat.{◌+◌, ◌<◌, ◌≤◌, ℕ}
use mathlib.Core.Bool.{◌&&◌, false, not, true}
use mathlib.Core.List.{[], map}
use mathlib.Core.Logic.{⊎_elim}
use mathlib.Core.Path.{◌∙◌, ◌≡◌, sym}
use native.Mathlib.Omega.{arith}
use lib.Dec.{eqb, leb, ltb}
use lib.ListN.{get_or-map, get_or, length, length-map, take}
use borrow.Author.Tests.{eqb-true, ltb-true, not-true}
use Rattle.edge.proofs.Laws.{no_edge}
use Rattle.edge.specs.Edges.{back_number, front_number, is_span}
use Rattle.edge.specs.Uses.{back_of, edge_number, front_of}
use Rattle.errors.proofs.Laws.{each_record, none_left, none_right, unless_passes}
use Rattle.errors.specs.Faults.{each}
use Rattle.errors.specs.declared.Refusal.TheVariants.{SameVertex, Span, Unnamed}
use Rattle.face.specs.Faces.{face_rule, wire_count}
use Rattle.lists.proofs.Laws.{cases, eqb_sym, left_true, map_take, right_true}
use Rattle.lists.specs.Lists.{split, sum, unless}
use Rattle.pattern.proofs.Counts.{Full, Limited, uses_counted, wires_counted}
use Rattle.pattern.proofs.Passed.{RecordsPassed, records_passed}
use Rattle.pattern.specs.Checks.{edge_faults, name_faults, outlines, record_faults}
use Rattle.pattern.specs.Contents.{Content, Pattern, content}
use Rattle.wire.specs.Named.{Named}

module _ (c : Content) (fine : each (edge_faults (length c.points)) 0 c.edges ≡ []) where
  edge_named : (k : ℕ) → k < length c.edges → (front_number (get_or c.edges k no_edge) < length c.points) × (back_number (get_or c.edges k no_edge) < length c.points)
  edge_named k h =
      let e = get_or c.edges k no_edge in
      let n = length c.points in
      let both = unless_passes (ltb (front_number e) n && ltb (back_number e) n) (Unnamed 1 (0 + k)) (none_left (unless (ltb (front_number e) n && ltb (back_number e) n) (Unnamed 1 (0 + k))) (unless (not (eqb (front_number e) (back_number e))) (SameVertex (0 + k))) (none_left _ (unless (is_span e.curve) (Span (0 + k))) (each_record (edge_faults n) no_edge 0 c.edges fine k h))) in (
        ltb-true (front_number e) n (left_true (ltb (front_number e) n) (ltb (back_number e) n) both),
        ltb-true (back_number e) n (right_true (ltb (front_number e) n) (ltb (back_number e) n) both),
      )

  -- the ends of the edges, as columns, name points too
  pub front_named : (e : ℕ) → e < length c.edges → get_or (map front_number c.edges) e 0 < length c.points
  front_named e h = rw (get_or-map front_number c.edges e no_edge) (edge_named e h).0

  pub back_named : (e : ℕ) → e < length c.edges → get_or (map back_number c.edges) e 0 < length c.points
  back_named e h = rw (get_or-map back_number c.edges e no_edge) (edge_named e h).1

module _ (c : Content) (ok : record_faults c ≡ []) where
  passed : RecordsPassed c
  passed = records_passed c ok

  pub wires_summed : sum c.wires ≡ length c.uses
  wires_summed =
      eqb-true (sum c.wires) (length c.uses) (unless_passes (eqb (sum c.wires) (length c.uses)) (Unnamed 3 (length c.wires)) passed.wires)

  pub faces_summed : sum (map wire_count c.faces) ≡ length c.wires
  faces_summed =
      let counts = map wire_count c.faces in
      eqb-true (sum counts) (length c.wires) (unless_passes (eqb (sum counts) (length c.wires)) (Unnamed 4 (length counts)) passed.faces)

  pub use_named : (k : ℕ) → k < length c.uses → edge_number (get_or c.uses k 0) < length c.edges
  use_named k h =
      let u = get_or c.uses k 0 in
      ltb-true (edge_number u) (length c.edges)
      (unless_passes (ltb (edge_number u) (length c.edges)) (Unnamed 2 (0 + k)) (each_record (name_faults 2 (length c.edges)) 0 0 c.uses passed.uses k h))

  pub point_named : (u : ℕ) → edge_number u < length c.edges → front_of (map front_number c.edges) (map back_number c.edges) u < length c.points
  unfolding front_of
  point_named u h =
      ⊎_elim
      (λ (r : leb 32768 u ≡ true). rw r (back_named c passed.edges (edge_number u) h))
      (λ (r : leb 32768 u ≡ false). rw r (front_named c passed.edges (edge_number u) h))
      (cases (leb 32768 u))

  edge_apart : (k : ℕ) → k < length c.edges → eqb (front_number (get_or c.edges k no_edge)) (back_number (get_or c.edges k no_edge)) ≡ false
  edge_apart k h =
      let e = get_or c.edges k no_edge in
      let n = length c.points in
      not-true (eqb (front_number e) (back_number e))
      (unless_passes (not (eqb (front_number e) (back_number e))) (SameVertex (0 + k))
      (none_right (unless (ltb (front_number e) n && ltb (back_number e) n) (Unnamed 1 (0 + k))) (unless (not (eqb (front_number e) (back_number e))) (SameVertex (0 + k)))
      (none_left _ (unless (is_span e.curve) (Span (0 + k))) (each_record (edge_faults n) no_edge 0 c.edges passed.edges k h))))

  -- the ends of a use differ
  pub ends_apart : (u : ℕ) → edge_number u < length c.edges
      → eqb (front_of (map front_number c.edges) (map back_number c.edges) u) (back_of (map front_number c.edges) (map back_number c.edges) u) ≡ false
  unfolding front_of
  ends_apart u h =
      let f : get_or (map front_number c.edges) (edge_number u) 0 ≡ front_number (get_or c.edges (edge_number u) no_edge) = get_or-map front_number c.edges (edge_number u) no_edge in
      let b : get_or (map back_number c.edges) (edge_number u) 0 ≡ back_number (get_or c.edges (edge_number u) no_edge) = get_or-map back_number c.edges (edge_number u) no_edge in
      ⊎_elim
      (λ (r : leb 32768 u ≡ true). rw (r, f, b, eqb_sym) (edge_apart (edge_number u) h))
      (λ (r : leb 32768 u ≡ false). rw (r, f, b) (edge_apart (edge_number u) h))
      (cases (leb 32768 u))

  pub named : length c.points ≤ 2048 → Named (map front_number c.edges) (map back_number c.edges) c.uses
  named few = record {
    alike = length-map c.edges back_number ∙ sym (length-map c.edges front_number);
    edge = λ k h. rw (length-map c.edges front_number) (use_named k h);
    point = λ k h. omega (arith, point_named (get_or c.uses k 0) (use_named k h));
  }

-- the same of the tables in storage, as the code lends them
module _ (p : Pattern) (s : Limited p.counts) (full : Full p) (ok : record_faults (content p) ≡ []) where
  pub tables_faces : sum (take (get_or p.counts 4 0) (map wire_count p.faces)) ≡ get_or p.counts 3 0
  tables_faces = rw (← map_take wire_count (get_or p.counts 4 0) p.faces) (faces_summed (content p) ok ∙ wires_counted p s full)

  pub tables_wires : sum (content p).wires ≡ get_or p.counts 2 0
  tables_wires = wires_summed (content p) ok ∙ uses_counted p s full

pub tables_rule : (p : Pattern)
    → face_rule (take (get_or p.counts 1 0) (map front_number p.edges)) (take (get_or p.counts 1 0) (map back_number p.edges)) 0
    (split (take (get_or p.counts 4 0) (map wire_count p.faces)) (split (content p).wires (content p).uses))
    ≡ face_rule (map front_number (content p).edges) (map back_number (content p).edges) 0 (outlines (content p))
tables_rule p =
    rw (← map_take front_number (get_or p.counts 1 0) p.edges, ← map_take back_number (get_or p.counts 1 0) p.edges, ← map_take wire_count (get_or p.counts 4 0) p.faces)
