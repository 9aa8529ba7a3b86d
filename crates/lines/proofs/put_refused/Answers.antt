-- The number of the refusal, then that of the shell.
use mathlib.Core.List.{◌++◌}
use mathlib.Core.Path.{◌∙◌}
use native.Mathlib.Omega.{arith}
use Rattle.lists.proofs.Sets.{put_then}
use Rattle.output.specs.Text.{ascii, decimal}
use Rattle.lines.proofs.Bounds.{refused_first, refused_second}
use Rattle.lines.specs.Parts.{word_number}
use Rattle.lines.proofs.put_refused.Goals as goal

pub put_field-end-requires : goal.put_field-end-requires
put_field-end-requires c = omega (arith, refused_first _ c.requires.0)

pub put_number-requires : goal.put_number-requires
put_number-requires c = let pre = c.requires in
    omega (arith, refused_first _ pre.0, refused_second _ pre.1, c.put_field-end.auto.out)

pub shape_of-out : goal.shape_of-out
shape_of-out c = c.put_number.auto.out ∙ c.put_field-end.auto.out

pub returns : goal.returns
returns c = put_then c.args.out.now _ (ascii "solid refused " ++ decimal _) (word_number (ascii " shell ") _) _ _ _ _
    c.put_field-end.ensures c.put_number.ensures
