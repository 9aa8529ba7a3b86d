use mathlib.Core.Path.{sym}
use native.Mathlib.Omega.{arith}
use Rattle.shell_wires.proofs.Laws.{spreading_all, spreading_long, spreading_next, spreading_room, spreading_start}
use Rattle.shell_wires.proofs.wire_flags.Goals as goal

pub loop-f-init : goal.loop-f-init
loop-f-init c = spreading_start _ _ c.requires.1

pub slice_bounds-put_flags-end : goal.slice_bounds-put_flags-end
slice_bounds-put_flags-end c = sym (spreading_long _ _ c.loop-f.invariant)

pub put_flags-requires : goal.put_flags-requires
put_flags-requires c = omega (arith, spreading_room _ _ c.loop-f.invariant (omega arith) c.from-n.ensures, spreading_long _ _ c.loop-f.invariant)

pub overflow_add-at : goal.overflow_add-at
overflow_add-at c = omega (arith, spreading_room _ _ c.loop-f.invariant (omega arith) c.from-n.ensures)

pub loop-f-preserved : goal.loop-f-preserved
loop-f-preserved c = spreading_next _ _ c.loop-f.invariant (omega arith) c.from-n.ensures c.put_flags.ensures

pub returns : goal.returns
returns c = spreading_all _ _ c.loop-f.invariant (omega arith)
