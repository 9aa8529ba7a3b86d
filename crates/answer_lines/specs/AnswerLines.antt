-- Wires in a line, and the line of a refused job (docs/GUIDE.md, Edits).
use Rattle.std.specs.Prelude.{ℕ, List, ◌++◌, map, eqb}
use Rattle.lines.specs.Lines.{number_line}
use Rattle.lines.specs.Parts.{item}
use Rattle.lists.specs.Lists.{flat, pick}
use Rattle.output.specs.Text.{ascii, field}

-- a wire in a line: the word, and its uses
abbrev pub wire_text : List ℕ → List ℕ
wire_text us = ascii " wire" ++ flat (map item us)

unfoldable pub wires_text : List (List ℕ) → List ℕ
wires_text ws = flat (map wire_text ws)

-- a number; with body and record where the reading checks refuse, which is outcome 1
unfoldable pub refused_text : ℕ → ℕ → ℕ → ℕ → List ℕ
refused_text outcome number body record' =
    pick (eqb outcome 1) (field "refused " number ++ field " body " body ++ number_line " record " record') (number_line "refused " number)
