-- What the theorems on the edits speak of, beside the edits (FORMAT 4).
use Rattle.std.specs.Prelude.{ℕ, ◌+◌, ◌<◌, Bool, false, not, ◌&&◌, List, [], ◌∷◌, ◌++◌, map, ◌≡◌, eqb, ltb, length}
use Rattle.lists.specs.Lists.{count, has, numbers, only}
use Rattle.edge.specs.Uses.{edge_number}
use Rattle.edge.specs.declared.Edge.{Edge}
use Rattle.edge.specs.declared.EdgeID.{EdgeID}
use Rattle.edit_answers.specs.Answers.{edit_number}
use Rattle.edit_answers.specs.declared.EditError.{EditError}
use Rattle.vertex.specs.declared.VertexID.{VertexID}
use Rattle.pattern.specs.Checks.{pattern_faults}
use Rattle.pattern.specs.Contents.{Content, Pattern, content, limit}
use Rattle.shell_edits.specs.Edits.{outline, room_for_edges, room_for_uses, wires_of}

-- ---- refusals

-- the number of the first refusal; 0 if there is none
abbrev pub first_number : List EditError → ℕ
first_number [] = 0
first_number (e ∷ es) = edit_number e

-- the refusals other than 17
abbrev pub others : List EditError → List EditError
others es = only (λ (e : EditError). not (eqb (edit_number e) 17)) es

-- nothing else is wrong, and there is no place for one more edge
abbrev pub OnlyFull : Pattern → List EditError → Type 0
OnlyFull p es = (pattern_faults p ≡ []) × (others es ≡ []) × (length (content p).edges ≡ limit 1)

-- ---- a cut

-- the stored wires of shell n with a use of edge e, each once
abbrev pub wires_with : Content → ℕ → ℕ → List ℕ
wires_with c n e = only (λ (w : ℕ). has w (wires_of c n) && has e (map edge_number (outline c w))) (numbers (length c.wires))

-- nothing else is wrong, and the edge table or the use list would pass its limit
abbrev pub OnlyNoRoom : Content → ℕ → ℕ → List EditError → Type 0
OnlyNoRoom c n e es = (others es ≡ []) × ((room_for_edges (length c.edges + 2) && room_for_uses (length c.uses + length (wires_with c n e))) ≡ false)

-- a wire has the edge there and back
abbrev pub there_and_back : ℕ → List ℕ → Bool
there_and_back e us = has e us && has (e + 32768) us

-- some wire of shell n has it so
abbrev pub some_there_and_back : Content → ℕ → ℕ → Bool
some_there_and_back c n e = ltb 0 (count (λ (w : ℕ). there_and_back e (outline c w)) (wires_of c n))

-- ---- a join

-- number a is that of edge e in q; the edges of p stand before it as they stood
abbrev pub Given : Pattern → Pattern → EdgeID → Edge → Type 0
Given p q a e = (a.0 ≡ length (content p).edges) × ((content q).edges ≡ (content p).edges ++ (e ∷ []))

-- ---- a point that is added

-- nothing else is wrong, and there is no place for one more point
abbrev pub PointsFull : Pattern → ℕ → Type 0
PointsFull p label = (pattern_faults p ≡ []) × (label < 4294967296) × (length (content p).points ≡ limit 0)

-- number v is that of the point with this label in q; the points of p stand before it as they stood
abbrev pub GivenPoint : Pattern → Pattern → VertexID → ℕ → Type 0
GivenPoint p q v label = (v.0 ≡ length (content p).points) × ((content q).points ≡ (content p).points ++ (label ∷ []))
