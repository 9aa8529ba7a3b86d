-- How long the lines are: no line has more bytes than what it adds weighs.
use Prim.Native.Nat.{◌*◌, ◌+◌, ◌<◌, ◌≤◌, ℕ}
use mathlib.Core.List.{List, map}
use mathlib.Core.Path.{◌≡◌}
use native.Mathlib.Omega.{arith}
use lib.ListN.{length, length-append}
use Rattle.answer_lines.proofs.Bounds.{wires_short}
use Rattle.answer_lines.specs.AnswerLines.{wires_text}
use Rattle.draft_parts.specs.Parts.{joined}
use Rattle.lines.proofs.Bounds.{items_short}
use Rattle.lines.specs.Lines.{number_line}
use Rattle.lists.proofs.Parts.{split_flat}
use Rattle.lists.specs.Lists.{flat}
use Rattle.output.proofs.Laws.{decimal_short}
use Rattle.output.specs.Text.{field}
use Rattle.pattern.specs.Contents.{Content}
use Rattle.show_lines.specs.PatternLines.{edge_line, face_line, point_line, shell_line}
use Rattle.text_round_trip.proofs.Adds.{edge_of, edge_part, face_part, point_part, shell_part}
use Rattle.text_round_trip.proofs.Reals.{real_is}

-- 40 for each point, face and shell, 100 for each edge, 5 for each wire, 7 for each use and listing
abbrev pub weight : Content → ℕ
weight p =
    40 * length p.points + 100 * length p.edges + 7 * length p.uses + 5 * length p.wires + 40 * length p.faces + 40 * length p.shells + 7 * length p.listings

pub weight_joined : (p q : Content) → weight (joined p q) ≡ weight p + weight q
weight_joined p q =
    omega (
      arith,
      length-append p.points q.points,
      length-append p.edges q.edges,
      length-append p.uses q.uses,
      length-append p.wires q.wires,
      length-append p.faces q.faces,
      length-append p.shells q.shells,
      length-append p.listings q.listings,
    )

-- ---- each line

pub point_weight : (k label : ℕ) → k < 65536 → label < 4294967296 → length (point_line k label) ≤ weight (point_part label)
unfolding point_line number_line field
point_weight k label h l =
    simp length-append (omega (arith, decimal_short 4 k (omega arith), decimal_short 9 label (omega arith)))

pub edge_weight : (k front back t0 t1 : ℕ) → k < 65536 → front < 65536 → back < 65536
    → length (edge_line k front back t0 t1) ≤ weight (edge_part (edge_of front back t0 t1))
unfolding edge_line field
edge_weight k front back t0 t1 h f b =
    simp length-append
    (omega (arith, decimal_short 4 k (omega arith), decimal_short 4 front (omega arith), decimal_short 4 back (omega arith), (real_is t0).1, (real_is t1).1))

pub face_weight : (k surface : ℕ) (wires : List (List ℕ)) → k < 65536 → surface < 65536 → length (face_line k surface wires) ≤ weight (face_part surface wires)
unfolding face_line field
face_weight k surface wires h s =
    let w : length (wires_text wires) ≤ 5 * length (map length wires) + 7 * length (flat wires) = rw (split_flat wires) at (wires_short (map length wires) (flat wires)) in
    simp length-append (omega (arith, decimal_short 4 k (omega arith), decimal_short 4 surface (omega arith)))

pub shell_weight : (k : ℕ) (listings : List ℕ) → k < 65536 → length (shell_line k listings) ≤ weight (shell_part listings)
unfolding shell_line field
shell_weight k listings h = simp length-append (omega (arith, decimal_short 4 k (omega arith), items_short listings))
