use native.Mathlib.Omega.{arith}
use Rattle.singular.proofs.Lists.{listed_all, listed_long, listed_next, listed_start}
use Rattle.singular.proofs.put_points.Goals as goal

pub loop-p-init : goal.loop-p-init
loop-p-init c = listed_start _ _ _

pub put_point-n-requires : goal.put_point-n-requires
put_point-n-requires c = let pre = c.requires in let loop = c.loop-p in
    (omega (arith, pre.0), omega (arith, loop.invariant.few, listed_long loop.invariant, pre.1))

pub loop-p-preserved : goal.loop-p-preserved
loop-p-preserved c = let put-point = c.put_point-n in
    listed_next c.loop-p.invariant (omega arith) put-point.ensures.out_after put-point.ensures.upper_bound

pub shape_of-out : goal.shape_of-out
shape_of-out c = listed_long c.loop-p.invariant

pub returns-clause-out_after : goal.returns-clause-out_after
returns-clause-out_after c = listed_all c.loop-p.invariant (omega arith)

pub returns-clause-upper_bound : goal.returns-clause-upper_bound
returns-clause-upper_bound c = omega (arith, c.loop-p.invariant.few, c.loop-p.invariant.low)
