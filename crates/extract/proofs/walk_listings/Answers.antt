use mathlib.Core.Path.{◌∙◌, sym}
use native.Mathlib.Omega.{arith}
use Rattle.extract.proofs.Laws.{passing_all, passing_lens, passing_next, passing_out, passing_start}
use Rattle.extract.proofs.walk_listings.Goals as goal

pub loop-l-init : goal.loop-l-init
loop-l-init c = passing_start _ _ _ _ _ _ _ _ _ c.requires.ready

pub part-requires : goal.part-requires
part-requires c = (c.requires.all_walk _ c.loop-l-test.true).shows

pub walk_part-w-requires-clause-named : goal.walk_part-w-requires-clause-named
walk_part-w-requires-clause-named c = rw c.part.ensures (c.requires.all_walk _ c.loop-l-test.true).begins

pub walk_part-w-requires-clause-ready : goal.walk_part-w-requires-clause-ready
walk_part-w-requires-clause-ready c = c.loop-l.invariant.ready

pub loop-l-preserved : goal.loop-l-preserved
loop-l-preserved c = passing_next _ _ _ _ _ _ _ _ _ _ _ _ _ _ c.loop-l.invariant c.loop-l-test.true _ _ _ _ _ c.part.ensures c.walk_part-w.ensures.passed c.walk_part-w.ensures.ready_2

pub shape_of-kept : goal.shape_of-kept
shape_of-kept c = c.loop-l.invariant.ready.points ∙ sym c.requires.ready.points

pub shape_of-out : goal.shape_of-out
shape_of-out c = passing_out _ _ _ _ _ _ _ _ _ _ _ _ _ _ c.loop-l.invariant

pub shape_of-lens : goal.shape_of-lens
shape_of-lens c = passing_lens _ _ _ _ _ _ _ _ _ _ _ _ _ _ c.loop-l.invariant

pub returns-clause-passed : goal.returns-clause-passed
returns-clause-passed c = passing_all _ _ _ _ _ _ _ _ _ _ _ _ _ _ c.loop-l.invariant (omega arith)

pub returns-clause-ready_2 : goal.returns-clause-ready_2
returns-clause-ready_2 c = c.loop-l.invariant.ready
