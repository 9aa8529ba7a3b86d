-- The reading checks of the edges, and those after them.
use Rattle.std.specs.Prelude.{Err, Result}
use Prim.Native.Nat.{ℕ}
use mathlib.Core.List.{List, [], map}
use mathlib.Core.Path.{◌∙◌, ◌≡◌, ap}
use lib.ListN.{get_or, take}
use Rattle.edge.specs.Edges.{back_number, front_number}
use Rattle.errors.proofs.Laws.{and_then, refused_first}
use Rattle.errors.specs.Faults.{each, first}
use Rattle.errors.specs.declared.Refusal.{Refusal}
use Rattle.face.specs.Faces.{face_rule, wire_count}
use Rattle.lists.specs.Lists.{split}
use Rattle.pattern.proofs.Counts.{Full, Limited, records_first}
use Rattle.pattern.proofs.Named.{tables_rule}
use Rattle.pattern.specs.Checks.{content_faults, edge_faults, outlines, record_faults}
use Rattle.pattern.specs.Contents.{Pattern, content}
use Rattle.pattern.specs.Columns.{list_faults}

-- the answers of the reading checks after the counts
module _ (p : Pattern) where
  abbrev pub edge_faults_lem : List Refusal
  edge_faults_lem = each (edge_faults (get_or p.counts 0 0)) 0 (content p).edges

  abbrev pub list_faults_lem : List Refusal
  list_faults_lem = list_faults (get_or p.counts 1 0) (content p).uses (content p).wires (take (get_or p.counts 4 0) (map wire_count p.faces)) (content p).shells (content p).listings

  -- as the code has them, with the column of the faces' numbers of wires
  pub lists_with : (counts : List ℕ) → counts ≡ map wire_count p.faces
      → first (list_faults (get_or p.counts 1 0) (content p).uses (content p).wires (take (get_or p.counts 4 0) counts) (content p).shells (content p).listings) ≡ first list_faults_lem
  lists_with counts e = rw e

  abbrev pub rule : List Refusal
  rule = face_rule (map front_number (content p).edges) (map back_number (content p).edges) 0 (outlines (content p))

  pub rule_with : (fronts backs counts : List ℕ) → take (get_or p.counts 1 0) fronts ≡ take (get_or p.counts 1 0) (map front_number p.edges)
      → take (get_or p.counts 1 0) backs ≡ take (get_or p.counts 1 0) (map back_number p.edges) → counts ≡ map wire_count p.faces
      → first (face_rule (take (get_or p.counts 1 0) fronts) (take (get_or p.counts 1 0) backs) 0 (split (take (get_or p.counts 4 0) counts) (split (content p).wires (content p).uses))) ≡ first rule
  rule_with fronts backs counts f b e = rw (f, b, e) (ap first (tables_rule p))

  module _ (s : Limited p.counts) (full : Full p) where
    pub edge_refused : (f : Refusal) → first edge_faults_lem ≡ Err f → first (content_faults (content p)) ≡ Err f
    edge_refused f h = refused_first (record_faults (content p)) rule f (records_first p s full ∙ ap (λ (r : Result Unit Refusal). and_then r (first list_faults_lem)) h)

    module _ (edges : edge_faults_lem ≡ []) where
      pub records_are : first (record_faults (content p)) ≡ first list_faults_lem
      records_are = records_first p s full ∙ ap (λ (fs : List Refusal). and_then (first fs) (first list_faults_lem)) edges
