-- The space, then the use or listing.
use mathlib.Core.Path.{◌∙◌}
use native.Mathlib.Omega.{arith}
use lib.ListN.{length-set}
use Rattle.lines.specs.Lines.{signed}
use Rattle.lines.proofs.Steps.{put_after}
use Rattle.lines.proofs.put_item.Goals as goal

pub put_signed-requires : goal.put_signed-requires
put_signed-requires c = simp length-set (omega arith)

pub shape_of-out : goal.shape_of-out
shape_of-out c = c.put_signed.auto.out ∙ simp length-set

pub returns : goal.returns
returns c = put_after c.args.out.now _ 32 (signed _) _ _ c.put_signed.ensures
