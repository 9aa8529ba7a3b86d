use mathlib.Core.Path.{sym}
use Rattle.lines.proofs.Loops.{putting_all, putting_next, putting_room, putting_start}
use Rattle.lines.specs.Parts.{word_number}
use Rattle.lines.proofs.put_numbers.Goals as goal

pub loop-point-init : goal.loop-point-init
loop-point-init c = putting_start (word_number c.args.word.now) _ _ _ c.requires

pub put_number-end-requires : goal.put_number-end-requires
put_number-end-requires c = putting_room (word_number c.args.word.now) c.loop-point.invariant 0 c.loop-point-test.true (sym c.from.ensures)

pub loop-point-preserved : goal.loop-point-preserved
loop-point-preserved c = putting_next (word_number c.args.word.now) c.loop-point.invariant 0 c.loop-point-test.true (sym c.from.ensures) _ _ c.put_number-end.ensures

pub shape_of-out : goal.shape_of-out
shape_of-out c = c.loop-point.invariant.long

pub returns : goal.returns
returns c = putting_all (word_number c.args.word.now) c.loop-point.invariant c.loop-point-test.false
