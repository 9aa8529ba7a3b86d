use native.Mathlib.Omega.{arith}
use Rattle.extract.proofs.Laws.{keeping_all, keeping_here, keeping_next, keeping_start}
use Rattle.extract.proofs.keep_listings.Goals as goal

pub loop-l-init : goal.loop-l-init
loop-l-init c = keeping_start _ _ _ _ _ _ _ _ c.requires.fronts_len_bound.3

pub part-requires : goal.part-requires
part-requires c = (c.requires.all_walk _ c.loop-l-test.true).shows

pub keep_part-requires : goal.keep_part-requires
keep_part-requires c = keeping_here _ _ _ _ _ _ _ _ _ _ c.loop-l.invariant (c.requires.all_walk _ c.loop-l-test.true) c.requires.fronts_len_bound.0 c.requires.fronts_len_bound.1 c.requires.fronts_len_bound.2 _ c.part.ensures

pub loop-l-preserved : goal.loop-l-preserved
loop-l-preserved c = keeping_next _ _ _ _ _ _ _ _ _ _ c.loop-l.invariant c.loop-l-test.true _ _ c.part.ensures c.keep_part.ensures.kept_after c.keep_part.auto.kept c.keep_part.ensures.holding

pub shape_of-kept : goal.shape_of-kept
shape_of-kept c = c.loop-l.invariant.long

pub returns-clause-kept_after : goal.returns-clause-kept_after
returns-clause-kept_after c = keeping_all _ _ _ _ _ _ _ _ _ _ c.loop-l.invariant (omega arith)

pub returns-clause-holding : goal.returns-clause-holding
returns-clause-holding c = c.loop-l.invariant.holding
