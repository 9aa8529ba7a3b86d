use native.Mathlib.Omega.{arith}
use Rattle.shell_wires.proofs.Laws.{looking_all, looking_next, looking_start, looking_stop}
use Rattle.shell_wires.proofs.lists_flagged.Goals as goal

pub loop-l-init : goal.loop-l-init
loop-l-init c = looking_start _ _

pub bounds-flags-from : goal.bounds-flags-from
bounds-flags-from c = omega (arith, c.from.ensures, c.requires.name_faces c.loop-l.l-index (omega arith), c.requires.flags_len)

pub returns-then-flags-from : goal.returns-then-flags-from
returns-then-flags-from c = looking_stop _ _ _ c.loop-l.invariant _ (omega arith) c.from.ensures c.if-flags-from.true

pub loop-l-preserved : goal.loop-l-preserved
loop-l-preserved c = looking_next _ _ _ c.loop-l.invariant _ (omega arith) c.from.ensures c.if-flags-from.false

pub returns : goal.returns
returns c = looking_all _ _ _ c.loop-l.invariant (omega arith)
