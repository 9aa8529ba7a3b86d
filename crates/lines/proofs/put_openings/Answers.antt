-- The openings, then the lookups.
use mathlib.Core.Path.{◌∙◌}
use native.Mathlib.Omega.{arith}
use lib.ListN.{length-append}
use Rattle.lists.proofs.Sets.{put_then}
use Rattle.output.specs.Text.{ascii}
use Rattle.lines.specs.Parts.{word_lines, word_number}
use Rattle.lines.proofs.put_openings.Goals as goal

pub put_lines-end-requires : goal.put_lines-end-requires
put_lines-end-requires c = (c.requires.0, omega (arith, length-append (word_lines (ascii "opening") c.args.lens.now c.args.uses.now) (word_number (ascii "lookups ") c.args.lookups)))

pub put_number-requires : goal.put_number-requires
put_number-requires c = let args = c.args in
    omega (arith, length-append (word_lines (ascii "opening") args.lens.now args.uses.now) (word_number (ascii "lookups ") args.lookups), c.put_lines-end.auto.out)

pub shape_of-out : goal.shape_of-out
shape_of-out c = c.put_number.auto.out ∙ c.put_lines-end.auto.out

pub returns : goal.returns
returns c = put_then _ _ (word_lines (ascii "opening") _ _) (word_number (ascii "lookups ") _) _ _ _ _
    c.put_lines-end.ensures c.put_number.ensures
