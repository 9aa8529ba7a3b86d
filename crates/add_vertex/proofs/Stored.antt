-- A pattern with one more point: what its storage holds, and the answer, case by case.
use Rattle.errors.specs.declared.CallError.{CallError}
use Rattle.errors.specs.declared.CallError.TheVariants.{Refused, Unread}
use Rattle.std.specs.Prelude.{Err, Ok, Result}
use Prim.Native.Nat.{◌+◌, ◌<◌, ◌≤◌, ℕ}
use mathlib.Core.List.{List, [], ◌++◌, ◌∷◌}
use mathlib.Core.Path.{◌∙◌, ◌≡◌, ap, sym}
use native.Mathlib.Omega.{arith}
use lib.ListN.{get_or, length, length-append, set}
use lib.Seq.{sets}
use borrow.Author.Tests.{le-leb, le-ltb, lt-leb, lt-ltb}
use Rattle.edit_answers.specs.Answers.{judged}
use Rattle.edit_answers.specs.declared.EditError.{EditError}
use Rattle.edit_answers.specs.declared.EditError.TheVariants.{NoSpace, Unnamed}
use Rattle.errors.specs.Faults.{first}
use Rattle.errors.specs.declared.Refusal.{Refusal}
use Rattle.pattern.proofs.Counts.{edges_counted, faces_counted, listings_counted, points_counted, shells_counted, uses_counted, wires_counted}
use Rattle.pattern.specs.Checks.{pattern_faults}
use Rattle.pattern.specs.Contents.{Pattern, content, stored_in}
use Rattle.shell_edits.proofs.Storage.{seven_are, sets_after, sets_own}
use Rattle.shell_edits.proofs.VertexTheorem.{vertex_pattern_accepted}
use Rattle.shell_edits.specs.Answers.{after_vertex, vertex_answer}
use Rattle.shell_edits.specs.Edits.{vertex_content, vertex_faults}
use Rattle.shell_wires.proofs.Facts.{Fine, faces_kept, listings_kept, shells_kept, uses_kept, wires_kept}
use Rattle.store.specs.Columns.{with_counts, with_points}
use Rattle.vertex.specs.declared.VertexID.{VertexID}

-- what the call promises of its answer and of the pattern then
abbrev pub Done : Pattern → ℕ → Result VertexID (CallError EditError) → Pattern → Type 0
Done p label a q = (a ≡ vertex_answer p label) × ((q ≡ after_vertex p label) × (pattern_faults p ≡ [] → pattern_faults q ≡ []))

-- seven counts with the first changed
first_set : (ns : List ℕ) (a : ℕ) → length ns ≡ 7 → a ∷ get_or ns 1 0 ∷ get_or ns 2 0 ∷ get_or ns 3 0 ∷ get_or ns 4 0 ∷ get_or ns 5 0 ∷ get_or ns 6 0 ∷ [] ≡ set ns 0 a
first_set ns a l = ap (λ (ms : List ℕ). set ms 0 a) (seven_are ns l)

-- refused by the reading checks
refused_both {ℓ} : {A : Type ℓ} (fs : List Refusal) (es : List EditError) (r : Refusal → A) (n : EditError → A) (d : A) {f : Refusal} → first fs ≡ Err f → r f ≡ judged fs es r n d
refused_both [] es r n d h = cc
refused_both (g ∷ fs) es r n d {f} h = let e : f ≡ g = cc in ap r e

pub vertex_unread : (p : Pattern) (label : ℕ) {f : Refusal} → first (pattern_faults p) ≡ Err f → Done p label (Err (Unread f)) p
vertex_unread p label h =
    let es = vertex_faults (content p) label in (
      refused_both (pattern_faults p) es (λ x. Err (Unread x)) (λ x. Err (Refused x)) _ h,
      (refused_both (pattern_faults p) es (λ (f : Refusal). p) (λ (e : EditError). p) _ h, λ fine. fine),
    )

module _ (p : Pattern) (s : Fine p) (label : ℕ) where
  abbrev points : ℕ
  points = get_or p.counts 0 0

  counted : length (content p).points ≡ points
  counted = points_counted p s.limits s.full

  pub vertex_unnamed : 4294967296 ≤ label → Done p label (Err (Refused Unnamed)) p
  vertex_unnamed h = (rw (s.ok, le-ltb label 4294967296 h), (rw (s.ok, le-ltb label 4294967296 h), λ fine. fine))

  module _ (h : label < 4294967296) where
    pub vertex_full : 2048 ≤ points → Done p label (Err (Refused NoSpace)) p
    vertex_full l =
        let no = lt-leb (length (content p).points + 1) 2048 (omega (arith, counted)) in
        (rw (s.ok, lt-ltb label 4294967296 h, no), (rw (s.ok, lt-ltb label 4294967296 h, no), λ fine. fine))

    -- the label after the others, then their count
    pub vertex_added : points < 2048 → (v : VertexID) (n : ℕ) (q r : Pattern) → n ≡ points → v.0 ≡ n → q ≡ with_points p (set p.points n label) → r ≡ with_counts q (set q.counts 0 (n + 1))
        → Done p label (Ok v) r
    vertex_added l v n q r en ev eq er =
        let yes = le-leb (length (content p).points + 1) 2048 (omega (arith, counted)) in
        let id : ℕ → VertexID = λ (k : ℕ). record { 0 = k } in
        let stored : r ≡ after_vertex p label = er ∙ rw (eq, en, s.ok, lt-ltb label 4294967296 h, yes) (sym stored_more) in (
          rw (s.ok, lt-ltb label 4294967296 h, yes) (ap (λ (k : ℕ). Ok (id k)) (ev ∙ en ∙ sym counted)),
          (stored, λ fine. ap pattern_faults stored ∙ vertex_pattern_accepted p s.full label fine),
        )
      where
        stored_more : stored_in p (vertex_content (content p) label) ≡ with_counts (with_points p (set p.points points label)) (set p.counts 0 (points + 1))
        stored_more =
            let more : length ((content p).points ++ (label ∷ [])) ≡ points + 1 = omega (arith, length-append (content p).points (label ∷ []), counted) in
            let kept-edges : sets p.edges 0 (content p).edges ≡ p.edges = sets_own p.edges (get_or p.counts 1 0) (omega (arith, s.limits.edges, s.full.edges)) in
            let after : sets p.points 0 ((content p).points ++ (label ∷ [])) ≡ set p.points points label = sets_after p.points points (omega (arith, s.limits.points, s.full.points)) (label ∷ []) in
            rw (
              after,
              kept-edges,
              uses_kept p s,
              wires_kept p s,
              faces_kept p s,
              shells_kept p s,
              listings_kept p s,
              more,
              edges_counted p s.limits s.full,
              uses_counted p s.limits s.full,
              wires_counted p s.limits s.full,
              faces_counted p s.limits s.full,
              shells_counted p s.limits s.full,
              listings_counted p s.limits s.full,
              first_set p.counts (points + 1) s.seven,
            )
