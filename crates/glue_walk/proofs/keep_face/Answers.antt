use native.Mathlib.Omega.{arith}
use mathlib.Core.Path.{refl}
use Rattle.glue_walk.proofs.Keeping.{keeping_all, keeping_edge, keeping_front, keeping_next, keeping_start}
use Rattle.glue_walk.proofs.keep_face.Goals as goal

pub loop-u-init : goal.loop-u-init
loop-u-init c = keeping_start _ _ _ _ c.requires.part_fits c.requires.holding

pub front_of-p-requires : goal.front_of-p-requires
front_of-p-requires c = keeping_edge _ _ _ _ c.requires.part_fits _ _ c.loop-u.invariant _ c.loop-u-test.true refl

pub keep_at-requires : goal.keep_at-requires
keep_at-requires c = keeping_front _ _ _ _ c.requires.part_fits _ _ c.loop-u.invariant _ c.loop-u-test.true refl _ c.front_of-p.ensures

pub loop-u-preserved : goal.loop-u-preserved
loop-u-preserved c = keeping_next _ _ _ _ c.requires.part_fits _ _ c.loop-u.invariant _ c.loop-u-test.true refl _ c.front_of-p.ensures _ c.keep_at.ensures

pub shape_of-kept : goal.shape_of-kept
shape_of-kept c = c.loop-u.invariant.long

pub returns-clause-kept_after : goal.returns-clause-kept_after
returns-clause-kept_after c = keeping_all _ _ _ _ c.requires.part_fits _ _ c.loop-u.invariant (omega arith)

pub returns-clause-holding_2 : goal.returns-clause-holding_2
returns-clause-holding_2 c = c.loop-u.invariant.holding
