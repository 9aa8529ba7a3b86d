-- How long numbers are in a line, and examples of lines.
use Prim.Native.Nat.{◌<◌, ◌≤◌, ℕ}
use mathlib.Core.List.{[], ◌∷◌}
use mathlib.Core.Path.{◌≡◌, refl}
use native.Mathlib.Omega.{arith}
use lib.Ieee.{add, mul, of_bits, to_bits, to_unsigned}
use lib.ListN.{length}
use Rattle.answer_lines.specs.AnswerLines.{wires_text}
use Rattle.decimals.specs.Decimals.{decimal_text, last_digits, nearest_bits, places_from, reads_back, real_text}
use Rattle.lines.proofs.Bounds.{number_short}
use Rattle.lines.specs.Lines.{number_line, signed}
use Rattle.lines.specs.Parts.{word_number}
use Rattle.lists.specs.Lists.{flat}
use Rattle.output.proofs.Laws.{decimal_short}
use Rattle.output.specs.Text.{ascii, decimal, digits, field}
use Rattle.show_lines.specs.PatternLines.{edge_line, face_line, point_line, shell_line}

-- a u16 has at most five digits
pub five : (n : ℕ) → n < 65536 → length (decimal n) ≤ 5
five n h = decimal_short 4 n (omega arith)

-- a label has at most ten
pub label_short : (n : ℕ) → n < 4294967296 → length (word_number (ascii " label ") n) ≤ 18
label_short n h = number_short (ascii " label ") 10 n (decimal_short 9 n (omega arith))

-- examples
point_of_lem : point_line 3 70000 ≡ ascii "point 3 label 70000\n"
unfolding point_line number_line field decimal digits
point_of_lem = refl

edge_of : edge_line 0 2 1 0 0x3ff8000000000000 ≡ ascii "edge 0 from 2 to 1 span 0 1.5\n"
unfolding edge_line real_text places_from reads_back nearest_bits decimal_text last_digits field decimal digits to_unsigned add mul of_bits to_bits
edge_of = refl

face_of_lem : face_line 1 9 ((0 ∷ 32769 ∷ []) ∷ (2 ∷ []) ∷ []) ≡ ascii "face 1 surface 9 wire 0+ 1- wire 2+\n"
unfolding face_line wires_text signed field decimal digits flat
face_of_lem = refl

shell_of : shell_line 0 (1 ∷ 32768 ∷ []) ≡ ascii "shell 0 faces 1+ 0-\n"
unfolding shell_line signed field decimal digits flat
shell_of = refl
