-- What checks without fault say, row by row, in the sequence of the checks.
use mathlib.Core.List.{List, [], ◌++◌, map}
use mathlib.Core.Path.{◌≡◌}
use lib.ListN.{length}
use Rattle.edge.specs.Edges.{back_number, front_number}
use Rattle.errors.proofs.Laws.{none_left, none_right}
use Rattle.errors.specs.Faults.{each}
use Rattle.errors.specs.declared.Refusal.{Refusal}
use Rattle.face.specs.Faces.{face_rule, wire_count}
use Rattle.pattern.specs.Checks.{content_faults, count_faults, edge_faults, name_faults, outlines, pattern_faults, record_faults, sum_faults}
use Rattle.pattern.specs.Contents.{Content, Pattern, content}

-- the checks of a stored pattern
pub record PatternPassed (p : Pattern) : Type 0 where
  pub counts : count_faults p.counts ≡ []
  pub content : content_faults (content p) ≡ []

pub pattern_passed : (p : Pattern) → pattern_faults p ≡ [] → PatternPassed p
pattern_passed p ok = record {
  counts = none_left (count_faults p.counts) (content_faults (content p)) ok;
  content = none_right (count_faults p.counts) (content_faults (content p)) ok;
}

-- the checks of a content
pub record ContentPassed (c : Content) : Type 0 where
  pub records : record_faults c ≡ []
  pub rule : face_rule (map front_number c.edges) (map back_number c.edges) 0 (outlines c) ≡ []

pub content_passed : (c : Content) → content_faults c ≡ [] → ContentPassed c
content_passed c ok =
    let rule = face_rule (map front_number c.edges) (map back_number c.edges) 0 (outlines c) in
    record { records = none_left (record_faults c) rule ok; rule = none_right (record_faults c) rule ok }

-- the checks of its records
pub record RecordsPassed (c : Content) : Type 0 where
  pub edges : each (edge_faults (length c.points)) 0 c.edges ≡ []
  pub uses : each (name_faults 2 (length c.edges)) 0 c.uses ≡ []
  pub wires : sum_faults 3 c.wires (length c.uses) ≡ []
  pub faces : sum_faults 4 (map wire_count c.faces) (length c.wires) ≡ []
  pub shells : sum_faults 5 c.shells (length c.listings) ≡ []
  pub listings : each (name_faults 6 (length c.faces)) 0 c.listings ≡ []

-- a row and what stands before it
module _ (before row : List Refusal) where
  pub row_passed : before ++ row ≡ [] → (before ≡ []) × (row ≡ [])
  row_passed h = (none_left before row h, none_right before row h)

pub records_passed : (c : Content) → record_faults c ≡ [] → RecordsPassed c
records_passed c ok =
    let six = row_passed _ (each (name_faults 6 (length c.faces)) 0 c.listings) ok in
    let five = row_passed _ (sum_faults 5 c.shells (length c.listings)) six.0 in
    let four = row_passed _ (sum_faults 4 (map wire_count c.faces) (length c.wires)) five.0 in
    let three = row_passed _ (sum_faults 3 c.wires (length c.uses)) four.0 in
    let two = row_passed (each (edge_faults (length c.points)) 0 c.edges) (each (name_faults 2 (length c.edges)) 0 c.uses) three.0 in
    record { edges = two.0; uses = two.1; wires = three.1; faces = four.1; shells = five.1; listings = six.1 }

pub passed_records : (c : Content) → RecordsPassed c → record_faults c ≡ []
passed_records c p = rw (p.edges, p.uses, p.wires, p.faces, p.shells, p.listings)
