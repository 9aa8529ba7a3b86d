-- A pattern as text, as the program `show` prints it: a line for each point, edge, face and shell, with its number; or the line `empty` (docs/GUIDE.md, A first garment by hand).
use Rattle.std.specs.Prelude.{ℕ, List, [], ◌∷◌, ◌++◌, get_or, length}
use Rattle.std.specs.Float.{binary64}
use Rattle.std.specs.Float.Ieee.{to_bits}
use Rattle.draft_parts.specs.Parts.{bare}
use Rattle.edge.specs.declared.Edge.{Edge}
use Rattle.errors.specs.declared.Refusal.{Refusal}
use Rattle.lists.specs.Lists.{flat, pick, split, tabulate}
use Rattle.output.specs.Text.{ascii, refusal_line}
use Rattle.pattern.specs.Checks.{outlines}
use Rattle.pattern.specs.Contents.{Content, counts_of, zero_edge, zero_face}
use Rattle.pattern_file.specs.File.{file_content, file_faults}
use Rattle.show_lines.specs.PatternLines.{edge_line, face_line, point_line, shell_line}

-- ---- the lines

abbrev pub line_of_point : Content → ℕ → List ℕ
line_of_point c k = point_line k (get_or c.points k 0)

-- an edge with its number: its points, and the ends of its span by their bits
abbrev pub edge_text : ℕ → Edge → List ℕ
edge_text k e = edge_line k e.front.0 e.back.0 (to_bits binary64 e.curve.t0) (to_bits binary64 e.curve.t1)

abbrev pub line_of_edge : Content → ℕ → List ℕ
line_of_edge c k = edge_text k (get_or c.edges k zero_edge)

abbrev pub line_of_face : Content → ℕ → List ℕ
line_of_face c k = face_line k (get_or c.faces k zero_face).surface (get_or (outlines c) k [])

abbrev pub line_of_shell : Content → ℕ → List ℕ
line_of_shell c k = shell_line k (get_or (split c.shells c.listings) k [])

-- ---- the text

abbrev pub record_lines : Content → List ℕ
record_lines c =
    flat (tabulate (length c.points) (line_of_point c))
    ++ flat (tabulate (length c.edges) (line_of_edge c))
    ++ flat (tabulate (length c.faces) (line_of_face c))
    ++ flat (tabulate (length c.shells) (line_of_shell c))

-- a pattern without records has one line that says so
unfoldable pub pattern_text : Content → List ℕ
pattern_text c = pick (bare (counts_of c)) (ascii "empty\n") (record_lines c)

-- a refused file has the line of its refusal
abbrev pub text_of : List Refusal → Content → List ℕ
text_of [] c = pattern_text c
text_of (f ∷ fs) c = refusal_line f

abbrev pub file_text : List ℕ → List ℕ
file_text s = text_of (file_faults s) (file_content s)
