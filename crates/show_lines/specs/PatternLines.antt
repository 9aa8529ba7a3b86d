-- The lines of the records of a pattern as text: each with its number (docs/GUIDE.md, A first garment by hand).
use Rattle.std.specs.Prelude.{ℕ, List, ◌++◌, map}
use Rattle.answer_lines.specs.AnswerLines.{wires_text}
use Rattle.decimals.specs.Decimals.{real_text}
use Rattle.lines.specs.Lines.{number_line}
use Rattle.lines.specs.Parts.{item}
use Rattle.lists.specs.Lists.{flat}
use Rattle.output.specs.Text.{ascii, field}

unfoldable pub point_line : ℕ → ℕ → List ℕ
point_line k label = field "point " k ++ number_line " label " label

-- the ends of the span by their bits
unfoldable pub edge_line : ℕ → ℕ → ℕ → ℕ → ℕ → List ℕ
edge_line k front back t0 t1 =
    field "edge " k ++ field " from " front ++ field " to " back ++ ascii " span " ++ real_text t0 ++ ascii " " ++ real_text t1 ++ ascii "\n"

unfoldable pub face_line : ℕ → ℕ → List (List ℕ) → List ℕ
face_line k surface wires = field "face " k ++ field " surface " surface ++ wires_text wires ++ ascii "\n"

unfoldable pub shell_line : ℕ → List ℕ → List ℕ
shell_line k listings = field "shell " k ++ ascii " faces" ++ flat (map item listings) ++ ascii "\n"
