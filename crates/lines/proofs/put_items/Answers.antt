use mathlib.Core.Path.{refl}
use Rattle.lines.proofs.Loops.{putting_all, putting_next, putting_room, putting_start}
use Rattle.lines.specs.Parts.{item}
use Rattle.lines.proofs.put_items.Goals as goal

pub loop-u-init : goal.loop-u-init
loop-u-init c = putting_start item _ _ _ c.requires

pub put_item-end-requires : goal.put_item-end-requires
put_item-end-requires c = putting_room item c.loop-u.invariant 0 c.loop-u-test.true refl

pub loop-u-preserved : goal.loop-u-preserved
loop-u-preserved c = putting_next item c.loop-u.invariant 0 c.loop-u-test.true refl _ _ c.put_item-end.ensures

pub shape_of-out : goal.shape_of-out
shape_of-out c = c.loop-u.invariant.long

pub returns : goal.returns
returns c = putting_all item c.loop-u.invariant c.loop-u-test.false
