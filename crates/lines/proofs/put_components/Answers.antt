-- The components, then the singular points.
use mathlib.Core.Path.{◌∙◌}
use native.Mathlib.Omega.{arith}
use lib.ListN.{length-append}
use Rattle.lists.proofs.Sets.{put_then}
use Rattle.output.specs.Text.{ascii}
use Rattle.lines.specs.Parts.{word_lines, word_numbers}
use Rattle.lines.proofs.put_components.Goals as goal

pub put_lines-end-requires : goal.put_lines-end-requires
put_lines-end-requires c = (c.requires.0, omega (arith, length-append (word_lines (ascii "component") c.args.plens.now c.args.pairs.now) (word_numbers (ascii "singular ") c.args.points.now)))

pub put_numbers-requires : goal.put_numbers-requires
put_numbers-requires c = let args = c.args in
    omega (arith, length-append (word_lines (ascii "component") args.plens.now args.pairs.now) (word_numbers (ascii "singular ") args.points.now), c.put_lines-end.auto.out)

pub shape_of-out : goal.shape_of-out
shape_of-out c = c.put_numbers.auto.out ∙ c.put_lines-end.auto.out

pub returns : goal.returns
returns c = put_then _ _ (word_lines (ascii "component") _ _) (word_numbers (ascii "singular ") c.args.points.now) _ _ _ _
    c.put_lines-end.ensures c.put_numbers.ensures
