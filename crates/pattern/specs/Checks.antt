-- The reading checks, in sequence, from the counts on (FORMAT 2.2).
use Rattle.std.specs.Prelude.{ℕ, ◌%◌, not, ◌&&◌, List, ◌++◌, map, eqb, leb, ltb, length}
use Rattle.lists.specs.Lists.{split, sum, unless}
use Rattle.errors.specs.declared.Refusal.{Refusal}
use Rattle.errors.specs.declared.Refusal.TheVariants.{Limit, SameVertex, Span, Unnamed}
use Rattle.errors.specs.Faults.{each}
use Rattle.edge.specs.declared.Edge.{Edge}
use Rattle.edge.specs.Edges.{back_number, front_number, is_span}
use Rattle.face.specs.Faces.{face_rule, wire_count}
use Rattle.pattern.specs.Contents.{Content, Pattern, content, limit}

-- counts in body order (2)
abbrev pub limit_faults : ℕ → ℕ → List Refusal
limit_faults b n = unless (leb n (limit b)) (Limit b)

abbrev pub count_faults : List ℕ → List Refusal
count_faults counts = each limit_faults 0 counts

-- an edge for its points (3), ends (5), span (4)
abbrev pub edge_faults : ℕ → ℕ → Edge → List Refusal
edge_faults points k e =
    unless (ltb (front_number e) points && ltb (back_number e) points) (Unnamed 1 k)
    ++ unless (not (eqb (front_number e) (back_number e))) (SameVertex k)
    ++ unless (is_span e.curve) (Span k)

-- a use or a listing: its number, without the 32,768, names one of n records (3)
abbrev pub name_faults : ℕ → ℕ → ℕ → ℕ → List Refusal
name_faults body n k x = unless (ltb (x % 32768) n) (Unnamed body k)

-- a sum against a count (3, record = record count of the summing body)
abbrev pub sum_faults : ℕ → List ℕ → ℕ → List Refusal
sum_faults body ns total = unless (eqb (sum ns) total) (Unnamed body (length ns))

abbrev pub record_faults : Content → List Refusal
record_faults c =
    each (edge_faults (length c.points)) 0 c.edges
    ++ each (name_faults 2 (length c.edges)) 0 c.uses
    ++ sum_faults 3 c.wires (length c.uses)
    ++ sum_faults 4 (map wire_count c.faces) (length c.wires)
    ++ sum_faults 5 c.shells (length c.listings)
    ++ each (name_faults 6 (length c.faces)) 0 c.listings

-- the outlines of each face
abbrev pub outlines : Content → List (List (List ℕ))
outlines c = split (map wire_count c.faces) (split c.wires c.uses)

abbrev pub content_faults : Content → List Refusal
content_faults c = record_faults c ++ face_rule (map front_number c.edges) (map back_number c.edges) 0 (outlines c)

-- the checks of a pattern that is in storage
abbrev pub pattern_faults : Pattern → List Refusal
pattern_faults p = count_faults p.counts ++ content_faults (content p)
