-- The three lines, one after the other.
use mathlib.Core.List.{◌++◌}
use mathlib.Core.Path.{◌∙◌}
use native.Mathlib.Omega.{arith}
use Rattle.lists.proofs.Sets.{put_then}
use Rattle.output.specs.Text.{ascii}
use Rattle.lines.proofs.Bounds.{condition_short, shell_number_short}
use Rattle.lines.specs.Parts.{condition_line, connected_line, word_number}
use Rattle.lines.proofs.put_head.Goals as goal

pub put_number-second-requires : goal.put_number-second-requires
put_number-second-requires c = omega (arith, shell_number_short _ c.requires.0)

pub put_condition-third-requires : goal.put_condition-third-requires
put_condition-third-requires c = omega (arith, shell_number_short _ c.requires.0, c.put_number-second.auto.out)

pub put_connected-requires : goal.put_connected-requires
put_connected-requires c = omega (arith, shell_number_short c.args.n c.requires.0, condition_short c.args.condition.0, c.put_number-second.auto.out, c.put_condition-third.auto.out)

pub shape_of-out : goal.shape_of-out
shape_of-out c = c.put_connected.auto.out ∙ c.put_condition-third.auto.out ∙ c.put_number-second.auto.out

pub returns : goal.returns
returns c = let args = c.args in
    let x = word_number (ascii "shell ") _ in
    let y = condition_line args.condition.0 in
    let p = put_then args.out.now _ x y _ _ _ _ c.put_number-second.ensures c.put_condition-third.ensures in
    put_then args.out.now _ (x ++ y) (connected_line args.connected) _ _ _ _ p c.put_connected.ensures
