use mathlib.Core.Path.{◌∙◌, sym}
use native.Mathlib.Omega.{arith}
use Rattle.openings.proofs.Passes.{passing_all, passing_lens, passing_next, passing_out, passing_start}
use Rattle.openings.proofs.walk_part.Goals as goal

pub loop-u-init : goal.loop-u-init
loop-u-init c = passing_start _ _ _ _ _ _ _ c.requires.ready

pub walk_use-w-requires-clause-u_in_bounds : goal.walk_use-w-requires-clause-u_in_bounds
walk_use-w-requires-clause-u_in_bounds c = (c.requires.named.edge _ c.loop-u-test.true, c.requires.named.point _ c.loop-u-test.true)

pub walk_use-w-requires-clause-ready : goal.walk_use-w-requires-clause-ready
walk_use-w-requires-clause-ready c = c.loop-u.invariant.ready

pub loop-u-preserved : goal.loop-u-preserved
loop-u-preserved c = passing_next _ _ _ _ _ _ _ _ _ _ _ _ c.loop-u.invariant c.loop-u-test.true _ _ _ _ c.walk_use-w.ensures.passed c.walk_use-w.ensures.ready_2

pub shape_of-kept : goal.shape_of-kept
shape_of-kept c = c.loop-u.invariant.ready.points ∙ sym c.requires.ready.points

pub shape_of-out : goal.shape_of-out
shape_of-out c = passing_out _ _ _ _ _ _ _ _ _ _ _ _ c.loop-u.invariant

pub shape_of-lens : goal.shape_of-lens
shape_of-lens c = passing_lens _ _ _ _ _ _ _ _ _ _ _ _ c.loop-u.invariant

pub returns-clause-passed : goal.returns-clause-passed
returns-clause-passed c = passing_all _ _ _ _ _ _ _ _ _ _ _ _ c.loop-u.invariant (omega arith)

pub returns-clause-ready_2 : goal.returns-clause-ready_2
returns-clause-ready_2 c = c.loop-u.invariant.ready
