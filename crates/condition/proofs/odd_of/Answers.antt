use native.Mathlib.Omega.{arith}
use Rattle.condition.proofs.Loops.{writing_all, writing_next, writing_start}
use Rattle.condition.proofs.odd_of.Goals as goal

pub loop-e-init : goal.loop-e-init
loop-e-init c = writing_start _ _

pub loop-e-preserved : goal.loop-e-preserved
loop-e-preserved c = writing_next _ _ _ _ c.loop-e.invariant c.loop-e-test.true c.requires _ c.state_in.ensures.0

pub returns : goal.returns
returns c = writing_all _ _ _ _ c.loop-e.invariant (omega arith)
