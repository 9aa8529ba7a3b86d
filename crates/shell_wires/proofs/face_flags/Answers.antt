use native.Mathlib.Omega.{arith}
use Rattle.shell_wires.proofs.Laws.{flagging_all, flagging_next, flagging_start}
use Rattle.shell_wires.proofs.face_flags.Goals as goal

pub loop-l-init : goal.loop-l-init
loop-l-init c = flagging_start _

pub bounds-out-from : goal.bounds-out-from
bounds-out-from c = omega (arith, c.from.ensures, c.requires c.loop-l.l-index (omega arith))

pub loop-l-preserved : goal.loop-l-preserved
loop-l-preserved c = flagging_next _ _ _ c.loop-l.invariant _ (omega arith) c.from.ensures (omega (arith, c.from.ensures, c.requires c.loop-l.l-index (omega arith)))

pub returns : goal.returns
returns c = flagging_all _ _ _ c.loop-l.invariant (omega arith)
