-- What columns without fault say: uses name edges, the sums are right.
use Rattle.std.specs.Prelude.{Err, Result}
use Prim.Native.Nat.{◌+◌, ◌<◌, ℕ}
use mathlib.Core.Bool.{false, true}
use mathlib.Core.List.{List, [], ◌++◌, map}
use mathlib.Core.Logic.{⊎_elim}
use mathlib.Core.Path.{◌∙◌, ◌≡◌, ap, sym}
use native.Mathlib.Omega.{arith}
use lib.Dec.{eqb, leb, ltb}
use lib.ListN.{get_or, length, length-map, length-take, take}
use lib.Seq.{get_or-take, length-take-le}
use borrow.Author.Tests.{eqb-true, ltb-true}
use Rattle.edge.specs.Edges.{back_number, front_number}
use Rattle.edge.specs.Uses.{edge_number, front_of}
use Rattle.edge.specs.declared.Edge.{Edge}
use Rattle.errors.proofs.Laws.{and_then, each_record, first_append, none_left, none_right, unless_passes}
use Rattle.errors.specs.Faults.{each, first}
use Rattle.errors.specs.declared.Refusal.{Refusal}
use Rattle.errors.specs.declared.Refusal.TheVariants.{Unnamed}
use Rattle.face.specs.Faces.{face_rule, wire_count}
use Rattle.lists.proofs.Laws.{cases, map_take}
use Rattle.lists.specs.Lists.{split, sum}
use Rattle.pattern.proofs.Counts.{Full, Limited, edges_counted, points_counted}
use Rattle.pattern.proofs.Edges.{edge_faults_lem, lists_with, records_are, rule, rule_with}
use Rattle.pattern.proofs.Named.{back_named, front_named}
use Rattle.pattern.specs.Checks.{content_faults, edge_faults, name_faults, record_faults, sum_faults}
use Rattle.pattern.specs.Contents.{Pattern, content}
use Rattle.wire.specs.Named.{Named}
use Rattle.pattern.specs.Columns.{Checkable, column_faults, list_faults}

module _ (edges : ℕ) (uses wires counts shells listings : List ℕ) (ok : list_faults edges uses wires counts shells listings ≡ []) where
  abbrev names : List Refusal
  names = each (name_faults 2 edges) 0 uses

  abbrev uses_sum : List Refusal
  uses_sum = sum_faults 3 wires (length uses)

  abbrev wires_sum : List Refusal
  wires_sum = sum_faults 4 counts (length wires)

  three : names ++ uses_sum ++ wires_sum ≡ []
  three =
      none_left (names ++ uses_sum ++ wires_sum) (sum_faults 5 shells (length listings))
      (none_left (names ++ uses_sum ++ wires_sum ++ sum_faults 5 shells (length listings)) (each (name_faults 6 (length counts)) 0 listings) ok)

  pub lists_wires : sum wires ≡ length uses
  lists_wires =
      eqb-true (sum wires) (length uses)
      (unless_passes (eqb (sum wires) (length uses)) (Unnamed 3 (length wires)) (none_right names uses_sum (none_left (names ++ uses_sum) wires_sum three)))

  pub lists_faces : sum counts ≡ length wires
  lists_faces =
      eqb-true (sum counts) (length wires) (unless_passes (eqb (sum counts) (length wires)) (Unnamed 4 (length counts)) (none_right (names ++ uses_sum) wires_sum three))

  pub lists_named : (k : ℕ) → k < length uses → edge_number (get_or uses k 0) < edges
  lists_named k h =
      let u = get_or uses k 0 in
      ltb-true (edge_number u) edges
      (unless_passes (ltb (edge_number u) edges) (Unnamed 2 (0 + k)) (each_record (name_faults 2 edges) 0 0 uses (none_left names uses_sum (none_left (names ++ uses_sum) wires_sum three)) k h))

-- a use of an edge whose ends are among 2,048 points begins at one of them
front_low : (fronts backs : List ℕ) (n u : ℕ) → edge_number u < n → ((e : ℕ) → e < n → get_or fronts e 0 < 2048) → ((e : ℕ) → e < n → get_or backs e 0 < 2048) → front_of fronts backs u < 2048
unfolding front_of
front_low fronts backs n u h f b =
    ⊎_elim
    (λ (r : leb 32768 u ≡ true). rw r (b (edge_number u) h))
    (λ (r : leb 32768 u ≡ false). rw r (f (edge_number u) h))
    (cases (leb 32768 u))

module _ {fronts backs wires faces shells : List ℕ} (c : Checkable fronts backs wires faces shells) (uses listings : List ℕ) where
  pub columns_first : first (column_faults fronts backs uses wires faces shells listings) ≡ and_then (first (list_faults (length fronts) uses wires faces shells listings)) (first (face_rule fronts backs 0 (split faces (split wires uses))))
  columns_first = first_append (list_faults (length fronts) uses wires faces shells listings) (face_rule fronts backs 0 (split faces (split wires uses)))

  pub columns_refused : (f : Refusal) → first (list_faults (length fronts) uses wires faces shells listings) ≡ Err f → Err f ≡ first (column_faults fronts backs uses wires faces shells listings)
  columns_refused f h = sym (columns_first ∙ ap (λ (r : Result Unit Refusal). and_then r (first (face_rule fronts backs 0 (split faces (split wires uses))))) h)

  module _ (ok : list_faults (length fronts) uses wires faces shells listings ≡ []) where
    pub columns_passed : first (face_rule fronts backs 0 (split faces (split wires uses))) ≡ first (column_faults fronts backs uses wires faces shells listings)
    columns_passed = sym (columns_first ∙ ap (λ (fs : List Refusal). and_then (first fs) (first (face_rule fronts backs 0 (split faces (split wires uses))))) ok)

    pub columns_named : Named fronts backs uses
    columns_named = record {
      alike = c.alike;
      edge = λ k h. lists_named (length fronts) uses wires faces shells listings ok k h;
      point = λ k h. front_low fronts backs (length fronts) (get_or uses k 0) (lists_named (length fronts) uses wires faces shells listings ok k h) c.front_named c.back_named;
    }

-- ---- the tables of a pattern as columns, its edges without fault
module _ (p : Pattern) (s : Limited p.counts) (full : Full p) (fine : edge_faults_lem p ≡ []) (fronts backs counts : List ℕ)
    (f : take (get_or p.counts 1 0) fronts ≡ take (get_or p.counts 1 0) (map front_number p.edges)) (b : take (get_or p.counts 1 0) backs ≡ take (get_or p.counts 1 0) (map back_number p.edges))
    (w : counts ≡ map wire_count p.faces) (lf : length fronts ≡ 1024) (lb : length backs ≡ 1024) where
  abbrev e : ℕ
  e = get_or p.counts 1 0

  edges_fine : each (edge_faults (length (content p).points)) 0 (content p).edges ≡ []
  edges_fine = rw (points_counted p s full) fine

  -- of a column whose first numbers are those of the edges
  low : (g : Edge → ℕ) (xs : List ℕ) → take e xs ≡ take e (map g p.edges) → ((k : ℕ) → k < length (content p).edges → get_or (map g (content p).edges) k 0 < length (content p).points)
      → (k : ℕ) → k < e → get_or xs k 0 < 2048
  low g xs is named k h =
      let same : get_or xs k 0 ≡ get_or (map g (content p).edges) k 0 = sym (get_or-take e xs k 0 h) ∙ ap (λ (l : List ℕ). get_or l k 0) (is ∙ sym (map_take g e p.edges)) in
      omega (arith, same, named k (omega (arith, edges_counted p s full)), points_counted p s full, s.points)

  taken : (xs : List ℕ) → length xs ≡ 1024 → length (take e xs) ≡ e
  taken xs h = length-take-le e xs (omega (arith, s.edges, h))

  below : (xs : List ℕ) → length xs ≡ 1024 → ((k : ℕ) → k < e → get_or xs k 0 < 2048) → (k : ℕ) → k < length (take e fronts) → get_or (take e xs) k 0 < 2048
  below xs long named k h =
      let inside : k < e = omega (arith, h, taken fronts lf) in
      rw (get_or-take e xs k 0 inside) (named k inside)

  pub checkable : Checkable (take e fronts) (take e backs) (take (get_or p.counts 3 0) p.wires) (take (get_or p.counts 4 0) counts) (take (get_or p.counts 5 0) p.shells)
  checkable = record {
    alike = taken backs lb ∙ sym (taken fronts lf);
    wires_few = omega (arith, s.wires, length-take (get_or p.counts 3 0) p.wires);
    faces_few = omega (arith, s.faces, length-take (get_or p.counts 4 0) counts);
    shells_few = omega (arith, s.shells, length-take (get_or p.counts 5 0) p.shells);
    front_named = below fronts lf (low front_number fronts f (front_named (content p) edges_fine));
    back_named = below backs lb (low back_number backs b (back_named (content p) edges_fine));
  }

  pub content_columns : first (column_faults (take e fronts) (take e backs) (content p).uses (content p).wires (take (get_or p.counts 4 0) counts) (content p).shells (content p).listings) ≡ first (content_faults (content p))
  content_columns =
      columns_first checkable _ _
      ∙ rw (taken fronts lf) (ap (λ (r : Result Unit Refusal). and_then r (first (face_rule (take e fronts) (take e backs) 0 (split (take (get_or p.counts 4 0) counts) (split (content p).wires (content p).uses))))) (lists_with p counts w ∙ sym (records_are p s full fine))
      ∙ ap (and_then (first (record_faults (content p)))) (rule_with p fronts backs counts f b w)
      ∙ sym (first_append (record_faults (content p)) (rule p)))
