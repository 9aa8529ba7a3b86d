-- The number, then the label.
use mathlib.Core.List.{◌++◌}
use native.Mathlib.Omega.{arith}
use Rattle.lines.specs.Lines.{number_line}
use Rattle.lines.specs.Parts.{word_number}
use Rattle.lists.proofs.Sets.{put_then}
use Rattle.output.specs.Text.{ascii, decimal, field}
use Rattle.show_lines.proofs.Bounds.{five, label_short}
use Rattle.show_lines.specs.PatternLines.{point_line}
use Rattle.show_lines.proofs.put_point.Goals as goal

pub put_field-end-requires : goal.put_field-end-requires
put_field-end-requires c = omega (arith, five _ c.requires.1)

pub put_number-requires : goal.put_number-requires
put_number-requires c = omega (arith, five c.args.k c.requires.1, label_short c.args.label (omega arith))

pub returns : goal.returns
unfolding point_line number_line field
returns c = let p = put_then c.args.out.now c.args.at (ascii "point " ++ decimal c.args.k) (word_number (ascii " label ") c.args.label) _ _ _ _ c.put_field-end.ensures c.put_number.ensures in
    (p.0, p.1, omega (arith, five c.args.k c.requires.1, label_short c.args.label (omega arith)))
