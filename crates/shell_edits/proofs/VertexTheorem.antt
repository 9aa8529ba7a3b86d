-- What holds of every point that is added: an accepted pattern stays so, and all that is reported of it is what it was.
use Rattle.errors.specs.declared.CallError.TheVariants.{Refused}
use Rattle.std.specs.Prelude.{Err, Ok}
use Prim.Native.Nat.{◌+◌, ◌<◌, ◌≤◌, suc, ℕ}
use mathlib.Core.Bool.{◌&&◌, not}
use mathlib.Core.List.{List, [], ◌++◌, ◌∷◌, map}
use mathlib.Core.Path.{◌∙◌, ◌≡◌, ap, refl, sym}
use native.Mathlib.Omega.{arith}
use lib.Dec.{eqb, leb, ltb}
use lib.ListN.{get_or, length, length-append, take}
use borrow.Author.Tests.{leb-false, leb-true, lt-leb, lt-ltb, ltb-true}
use Rattle.edge.specs.Edges.{back_number, front_number, is_span}
use Rattle.edge.specs.Uses.{edge_number}
use Rattle.edge.specs.declared.Edge.{Edge}
use Rattle.edit_answers.specs.Answers.{answer_of}
use Rattle.edit_answers.specs.declared.EditError.{EditError}
use Rattle.edit_answers.specs.declared.EditError.TheVariants.{NoSpace, Unnamed as Edit-as-Unnamed}
use Rattle.errors.proofs.Laws.{each_none, each_record, none_both, none_left, none_right, unless_passes}
use Rattle.errors.specs.Faults.{each}
use Rattle.errors.specs.declared.Refusal.{Refusal}
use Rattle.errors.specs.declared.Refusal.TheVariants.{SameVertex, Span, Unnamed}
use Rattle.face.specs.Faces.{face_rule}
use Rattle.lists.proofs.Count.{All, all_weaker}
use Rattle.lists.proofs.Laws.{left_true, right_true}
use Rattle.lists.proofs.Parts.{all_flat}
use Rattle.lists.specs.Lists.{flat, numbers, unless}
use Rattle.pattern.proofs.Counts.{Full}
use Rattle.pattern.proofs.Passed.{content_passed, passed_records, pattern_passed, records_passed}
use Rattle.pattern.proofs.Stored.{stored_content}
use Rattle.pattern.specs.Checks.{content_faults, count_faults, edge_faults, outlines, pattern_faults, record_faults}
use Rattle.pattern.specs.Contents.{Content, Pattern, content, counts_of, zero_edge}
use Rattle.shell.proofs.Connected.{connected_larger, ends_named}
use Rattle.shell.proofs.Shown.{Uses, wires_used}
use Rattle.shell.specs.Openings.{Walk, back_in, front_in, shell_walk, walk_of}
use Rattle.shell.specs.ShellKept.{ShellKept}
use Rattle.shell.specs.Shells.{shell_uses, shell_wires}
use Rattle.shell.specs.Singular.{singular_of}
use Rattle.shell_edits.proofs.Further.{singular_further, walk_further}
use Rattle.shell_edits.proofs.Stored.{after_accepted, first_full, points_few, unless_not_full, vertex_counts}
use Rattle.shell_edits.specs.Answers.{after_vertex, vertex_answer}
use Rattle.shell_edits.specs.Edits.{vertex_content, vertex_faults}
use Rattle.shell_edits.specs.Theorems.{GivenPoint, PointsFull}
use Rattle.solid.specs.Solid.{first_of_solid, in_shell, shell_errors, solid_errors, solid_of}
use Rattle.vertex.specs.declared.VertexID.{VertexID}

-- an edge without fault has none where there are more points
edge_larger : (points more k : ℕ) (e : Edge) → points ≤ more → edge_faults points k e ≡ [] → edge_faults more k e ≡ []
edge_larger points more k e l h =
    let f = front_number e in
    let b = back_number e in
    let named = unless (ltb f points && ltb b points) (Unnamed 1 k) in
    let apart = unless (not (eqb f b)) (SameVertex k) in
    let span = unless (is_span e.curve) (Span k) in
    let both = unless_passes (ltb f points && ltb b points) (Unnamed 1 k) (none_left named apart (none_left (named ++ apart) span h)) in
    let front = ltb-true f points (left_true (ltb f points) (ltb b points) both) in
    let back = ltb-true b points (right_true (ltb f points) (ltb b points) both) in
    rw (lt-ltb f more (omega (arith, l, front)), lt-ltb b more (omega (arith, l, back)), none_right named apart (none_left (named ++ apart) span h), none_right (named ++ apart) span h)

-- a point that is not refused
pub record Allowed (c : Content) (label : ℕ) : Type 0 where
  pub labelled : label < 4294967296
  pub room : length c.points < 2048

pub vertex_allowed : (c : Content) (label : ℕ) → vertex_faults c label ≡ [] → Allowed c label
vertex_allowed c label h =
    let right = ltb label 4294967296 in
    let room = leb (length c.points + 1) 2048 in
    let few = leb-true (length c.points + 1) 2048 (unless_passes room NoSpace (none_right (unless right Edit-as-Unnamed) (unless room NoSpace) h)) in
    record {
      labelled = ltb-true label 4294967296 (unless_passes right Edit-as-Unnamed (none_left (unless right Edit-as-Unnamed) (unless room NoSpace) h));
      room = omega (arith, few);
    }

module _ (c : Content) (ok : content_faults c ≡ []) (label : ℕ) where
  abbrev d : Content
  d = vertex_content c label

  more : length d.points ≡ suc (length c.points)
  more = omega (arith, length-append c.points (label ∷ []))

  -- an accepted content stays so
  pub vertex_accepted : content_faults d ≡ []
  vertex_accepted =
      let t = content_passed c ok in
      let r = records_passed c t.records in
      let m = length c.points in
      let edges : each (edge_faults (length d.points)) 0 c.edges ≡ [] =
      each_none (edge_faults (length d.points)) zero_edge 0 c.edges
      (λ k h. edge_larger m (length d.points) (0 + k) (get_or c.edges k zero_edge) (omega (arith, more)) (each_record (edge_faults m) zero_edge 0 c.edges r.edges k h)) in
      none_both (record_faults d) (face_rule (map front_number c.edges) (map back_number c.edges) 0 (outlines c))
      (passed_records d (record { edges = edges; uses = r.uses; wires = r.wires; faces = r.faces; shells = r.shells; listings = r.listings })) t.rule

  module _ (m : ℕ) where
    abbrev Ends : ℕ → Type 0
    Ends u = (front_in c u < length c.points) × (back_in c u < length c.points)

    ends : All Ends (shell_uses c m)
    ends =
        all_flat Ends (shell_wires c m)
        (all_weaker (Uses (length c.edges)) (All Ends) (λ us h. all_weaker (λ (u : ℕ). edge_number u < length c.edges) Ends (ends_named c ok) us h.1) (shell_wires c m) (wires_used c ok m))

    -- every shell is what it was
    pub vertex_kept : ShellKept c d m
    unfolding shell_wires
    vertex_kept =
        let front = front_in c in
        let back = back_in c in
        let begin = all_weaker Ends (λ (u : ℕ). front u < length c.points) (λ u e. e.0) (shell_uses c m) ends in
        let walk : shell_walk d m ≡ walk_of front back (suc (length c.points)) (shell_uses c m) = ap (λ (k : ℕ). walk_of front back k (shell_uses c m)) more in
        let found = walk ∙ walk_further front back (length c.points) (shell_uses c m) begin in
        record {
          listings_kept = refl;
          faces_kept = refl;
          uses_kept = refl;
          fronts_kept = refl;
          backs_kept = refl;
          condition_kept = refl;
          connected_kept = connected_larger c ok m (length d.points) (omega (arith, more));
          openings_kept = ap (λ (w : Walk). w.openings) found;
          lookups_kept = ap (λ (w : Walk). w.lookups) found;
          components_kept = refl;
          singular_kept = ap (λ (k : ℕ). singular_of front back (length c.edges) k (shell_wires c m)) more
              ∙ singular_further front back (length c.edges) (length c.points) (shell_wires c m) ends;
        }

  -- and so is the solid's verdict
  pub vertex_keeps_solid : solid_of d ≡ solid_of c
  unfolding solid_errors
  vertex_keeps_solid = λ i. first_of_solid (flat (map (λ (m : ℕ). in_shell m (same m i)) (numbers (length c.shells))))
    where
      same : (m : ℕ) → shell_errors d m ≡ shell_errors c m
      same m = let k = vertex_kept m in rw (k.condition_kept, k.connected_kept, k.singular_kept)

not_only : (fs : List Refusal) (es : List EditError) (v : VertexID) → answer_of fs es v ≡ Err (Refused NoSpace) → (fs ≡ []) × (take 1 es ≡ NoSpace ∷ [])
not_only [] [] v h = (refl, cc)
not_only [] (e ∷ es) v h = let z : e ≡ NoSpace = cc in (refl, ap (λ (d : EditError). d ∷ []) z)
not_only (f ∷ fs) es v h = (cc, cc)

added_only : (fs : List Refusal) (es : List EditError) (v w : VertexID) → answer_of fs es v ≡ Ok w → (fs ≡ []) × (es ≡ []) × (v ≡ w)
added_only [] [] v w h = (refl, refl, cc)
added_only [] (e ∷ es) v w h = (refl, cc, cc)
added_only (f ∷ fs) es v w h = (cc, cc, cc)

module _ (p : Pattern) (full : Full p) (label : ℕ) where
  abbrev c : Content
  c = content p

  pub vertex_few : vertex_faults c label ≡ [] → count_faults (counts_of (vertex_content c label)) ≡ []
  vertex_few h = vertex_counts p full label (omega (arith, length-append c.points (label ∷ []), (vertex_allowed c label h).room))

  -- an accepted pattern stays so, refused or not
  pub vertex_pattern_accepted : pattern_faults p ≡ [] → pattern_faults (after_vertex p label) ≡ []
  vertex_pattern_accepted ok =
      after_accepted p full ok (vertex_content c label) (vertex_faults c label) (λ h. (vertex_few h, vertex_accepted c (pattern_passed p ok).content label))

  -- 17 is answered exactly if nothing else is wrong and the points are full
  pub vertex_no_space : (vertex_answer p label ≡ (Err (Refused NoSpace)) → PointsFull p label) × (PointsFull p label → vertex_answer p label ≡ (Err (Refused NoSpace)))
  vertex_no_space = (
    (λ a.
        let right = ltb label 4294967296 in
        let t = not_only (pattern_faults p) (vertex_faults c label) _ a in
        let s = first_full (unless right Edit-as-Unnamed) (leb (length c.points + 1) 2048) (unless_not_full right Edit-as-Unnamed refl) t.1 in
        let many : length c.points ≡ 2048 = omega (arith, leb-false (length c.points + 1) 2048 s.1, points_few p full) in
        (t.0, ltb-true label 4294967296 (unless_passes right Edit-as-Unnamed s.0), many)),
    (λ t.
        let closed = lt-leb (length c.points + 1) 2048 (omega (arith, t.2)) in
        rw (t.0, lt-ltb label 4294967296 t.1, closed)),
  )

  -- the number given is that of the new point, and the old ones stand as they stood
  pub vertex_number : (v : VertexID) → vertex_answer p label ≡ Ok v → GivenPoint p (after_vertex p label) v label
  vertex_number v h =
      let t = added_only (pattern_faults p) (vertex_faults c label) _ v h in (
        ap (λ (w : VertexID). w.0) (sym t.2),
        rw (t.0, t.1) (ap (λ (d : Content). d.points) (stored_content p full (vertex_content c label) (vertex_few t.1))),
      )
