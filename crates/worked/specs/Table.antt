-- The pieces worked by hand (FORMAT 3.9), in one table. The answers are those given there, or follow from FORMAT by hand.
use Rattle.edge.specs.declared.EdgeID.{EdgeID}
use Rattle.edit_answers.specs.declared.EditError.{EditError}
use Rattle.errors.specs.declared.CallError.{CallError}
use Rattle.errors.specs.declared.CallError.TheVariants.{Refused, Unread}
use Rattle.std.specs.Prelude.{ℕ, ◌+◌, List, [], ◌∷◌, ◌++◌, map, length, replicate, Err, Ok, Result}
use Prim.Native.String.{String}
use Rattle.std.specs.Float.{binary64}
use Rattle.std.specs.Float.Ieee.{of_bits, to_bits}
use Rattle.curve.specs.Curves.{parameter_of}
use Rattle.edge.specs.Edges.{edge}
use Rattle.edge.specs.declared.Edge.{Edge}
use Rattle.edit_answers.specs.Answers.{edit_number}
use Rattle.errors.specs.Numbers.{number}
use Rattle.face.specs.declared.Face.{Face}
use Rattle.lists.specs.Lists.{flat}
use Rattle.output.specs.Text.{ascii}
use Rattle.pattern.specs.Contents.{Content, content, stored}
use Rattle.pattern_file.specs.File.{file_bytes}
use Rattle.report_text.specs.Report.{report_of}
use Rattle.shell_edits.specs.Answers.{after_cut, cut_answer}
use Rattle.shell_edits.specs.Edits.{wires_in}

-- ---- what is asked of a piece, and what is answered

-- an edge as its file has it: two ends, and the bits of the span's
pub record Ends : Type 0 where
  pub front : ℕ
  pub back : ℕ
  pub t0 : ℕ
  pub t1 : ℕ

abbrev pub ends : ℕ → ℕ → ℕ → ℕ → Ends
ends front back t0 t1 = record { front = front; back = back; t0 = t0; t1 = t1 }

pub data Question : Type 0 where
  -- what `report` prints of the piece's file
  report : Content → Question
  -- a cut: shell, edge, point, the bits of the parameter
  cut : Content → ℕ → ℕ → ℕ → ℕ → Question

pub data Answer : Type 0 where
  -- the bytes of a text
  prints : List ℕ → Answer
  -- the number of the refusal
  refused : ℕ → Answer
  -- the numbers of the two new edges; then the wires and the edges of the pattern
  halves : ℕ → ℕ → List (List ℕ) → List Ends → Answer

abbrev ends_of : Edge → Ends
ends_of e = ends e.front.0 e.back.0 (to_bits binary64 e.curve.t0) (to_bits binary64 e.curve.t1)

abbrev cut_to : Result (EdgeID × EdgeID) (CallError EditError) → Content → Answer
cut_to (Ok (a, b)) c = halves a.0 b.0 (wires_in c) (map ends_of c.edges)
cut_to (Err (Unread f)) c = refused (number f)
cut_to (Err (Refused e)) c = refused (edit_number e)

-- what the definitions answer
abbrev pub answer_to : Question → Answer
answer_to (report c) = prints (report_of (file_bytes c))
answer_to (cut c n e p bits) = cut_to (cut_answer (stored c) n e p (parameter_of bits)) (content (after_cut (stored c) n e p (parameter_of bits)))

-- a question with its answer, worked by hand
pub record Row : Type 0 where
  pub asked : Question
  pub worked : Answer

-- a text, line by line
abbrev lines : List String → Answer
lines ls = prints (flat (map (λ (l : String). ascii l ++ ascii "\n") ls))

abbrev reported : Content → List String → Row
reported piece ls = record { asked = report piece; worked = lines ls }

-- ---- the pieces

-- the f64 0, 0.0000009, 0.000001, 0.5 and 1
abbrev nil : ℕ
nil = 0

abbrev below : ℕ
below = 0x3eae_32f0_ee14_4531

abbrev least : ℕ
least = 0x3eb0_c6f7_a0b5_ed8d

abbrev half : ℕ
half = 0x3fe0_0000_0000_0000

abbrev one : ℕ
one = 0x3ff0_0000_0000_0000

-- an edge from a to b, with the span 0 to 1
abbrev from : ℕ → ℕ → Edge
from a b = edge (record { 0 = a }) (record { 0 = b }) (record { t0 = of_bits binary64 nil; t1 = of_bits binary64 one })

-- a face with so many wires
abbrev face : ℕ → Face
face wires = record { wires = wires; surface = 0 }

-- a use or listing reversed
abbrev back : ℕ → ℕ
back n = 32768 + n

-- outline 0+ 1+ 2+, of so many points: nothing uses those past the third
abbrev triangle : ℕ → List ℕ → Content
triangle points listings = record {
  points = replicate points 0;
  edges = from 0 1 ∷ from 1 2 ∷ from 2 0 ∷ [];
  uses = 0 ∷ 1 ∷ 2 ∷ [];
  wires = 3 ∷ [];
  faces = face 1 ∷ [];
  shells = length listings ∷ [];
  listings = listings;
}

-- outlines 0+1+2+, 0-3+4-, 1-4+5-, 2-5+3-
abbrev tetrahedron : Content
tetrahedron = record {
  points = replicate 4 0;
  edges = from 0 1 ∷ from 1 2 ∷ from 2 0 ∷ from 0 3 ∷ from 1 3 ∷ from 2 3 ∷ [];
  uses = 0 ∷ 1 ∷ 2 ∷ back 0 ∷ 3 ∷ back 4 ∷ back 1 ∷ 4 ∷ back 5 ∷ back 2 ∷ 5 ∷ back 3 ∷ [];
  wires = 3 ∷ 3 ∷ 3 ∷ 3 ∷ [];
  faces = face 1 ∷ face 1 ∷ face 1 ∷ face 1 ∷ [];
  shells = 4 ∷ [];
  listings = 0 ∷ 1 ∷ 2 ∷ 3 ∷ [];
}

-- one face without wires
abbrev bare : List ℕ → Content
bare listings = record { points = []; edges = []; uses = []; wires = []; faces = face 0 ∷ []; shells = length listings ∷ []; listings = listings }

-- outline 0+ 0-, of so many points: nothing uses those past the second
abbrev there_and_back : ℕ → Content
there_and_back points = record {
  points = replicate points 0;
  edges = from 0 1 ∷ [];
  uses = 0 ∷ back 0 ∷ [];
  wires = 2 ∷ [];
  faces = face 1 ∷ [];
  shells = 1 ∷ [];
  listings = 0 ∷ [];
}

-- triangles 0+ 1+ 2+ and 3+ 4+ 5+ that share only point 0, where 0 and 3 begin
abbrev at_one_point : Content
at_one_point = record {
  points = replicate 5 0;
  edges = from 0 1 ∷ from 1 2 ∷ from 2 0 ∷ from 0 3 ∷ from 3 4 ∷ from 4 0 ∷ [];
  uses = 0 ∷ 1 ∷ 2 ∷ 3 ∷ 4 ∷ 5 ∷ [];
  wires = 3 ∷ 3 ∷ [];
  faces = face 1 ∷ face 1 ∷ [];
  shells = 2 ∷ [];
  listings = 0 ∷ 1 ∷ [];
}

-- ---- the table
abbrev pub table : List Row
table =
    reported (triangle 3 (0 ∷ [])) (
    "shell 0"
    ∷ "condition Oriented"
    ∷ "connected yes"
    ∷ "opening 0+ 1+ 2+"
    ∷ "lookups 4"
    ∷ "component 0+"
    ∷ "solid refused 12 shell 0"
    ∷ [])
    -- listed reversed
    ∷ reported (triangle 3 (back 0 ∷ [])) (
    "shell 0"
    ∷ "condition Oriented"
    ∷ "connected yes"
    ∷ "opening 2- 1- 0-"
    ∷ "lookups 4"
    ∷ "component 0-"
    ∷ "solid refused 12 shell 0"
    ∷ [])
    -- listed twice
    ∷ reported (triangle 3 (0 ∷ 0 ∷ [])) (
    "shell 0"
    ∷ "condition Regular"
    ∷ "connected yes"
    ∷ "lookups 0"
    ∷ "component 0+"
    ∷ "solid refused 12 shell 0"
    ∷ [])
    -- listed three times
    ∷ reported (triangle 3 (0 ∷ 0 ∷ 0 ∷ [])) (
    "shell 0"
    ∷ "condition Irregular"
    ∷ "connected yes"
    ∷ "opening 0+ 1+ 2+"
    ∷ "lookups 4"
    ∷ "component 0+"
    ∷ "solid refused 12 shell 0"
    ∷ [])
    ∷ reported tetrahedron (
    "shell 0"
    ∷ "condition Closed"
    ∷ "connected yes"
    ∷ "lookups 0"
    ∷ "component 0+ 1+ 2+ 3+"
    ∷ "solid accepted"
    ∷ [])
    -- one face without wires
    ∷ reported (bare (0 ∷ [])) (
    "shell 0"
    ∷ "condition Closed"
    ∷ "connected yes"
    ∷ "lookups 0"
    ∷ "solid accepted"
    ∷ [])
    -- empty shell
    ∷ reported (bare []) (
    "shell 0"
    ∷ "condition Closed"
    ∷ "connected yes"
    ∷ "lookups 0"
    ∷ "solid refused 10 shell 0"
    ∷ [])
    ∷ reported (there_and_back 2) (
    "shell 0"
    ∷ "condition Closed"
    ∷ "connected yes"
    ∷ "lookups 0"
    ∷ "component 0+"
    ∷ "solid accepted"
    ∷ [])
    -- cutting edge 0, at 0.5, replaces only 0+
    ∷ record {
      asked = cut (there_and_back 3) 0 0 2 half;
      worked = halves 1 2 ((1 ∷ 2 ∷ back 0 ∷ []) ∷ []) (ends 0 1 nil one ∷ ends 0 2 nil half ∷ ends 2 1 half one ∷ []);
    }
    ∷ reported at_one_point (
    "shell 0"
    ∷ "condition Oriented"
    ∷ "connected yes"
    ∷ "opening 3+ 4+ 5+"
    ∷ "opening 1+ 2+"
    ∷ "lookups 7"
    ∷ "component 0+"
    ∷ "component 1+"
    ∷ "singular 0"
    ∷ "solid refused 12 shell 0"
    ∷ [])
    -- span 0 to 1: parameter 0.000001 cuts, 0.0000009 is 16
    ∷ record {
      asked = cut (triangle 4 (0 ∷ [])) 0 0 3 least;
      worked = halves 3 4 ((3 ∷ 4 ∷ 1 ∷ 2 ∷ []) ∷ []) (ends 0 1 nil one ∷ ends 1 2 nil one ∷ ends 2 0 nil one ∷ ends 0 3 nil least ∷ ends 3 1 least one ∷ []);
    }
    ∷ record { asked = cut (triangle 4 (0 ∷ [])) 0 0 3 below; worked = refused 16 }
    ∷ []
