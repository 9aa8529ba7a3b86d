use Rattle.std.proofs.Common.{refl, arith, ◌≡◌, ◌/◌, ◌*◌, length-take}
use Rattle.condition.proofs.Loops.{joining_all, joining_four, joining_next, joining_start}
use Rattle.condition.proofs.condition_of.Goals as goal

pub loop-b-init : goal.loop-b-init
loop-b-init c = joining_start _ _

pub loop-b-preserved : goal.loop-b-preserved
loop-b-preserved c = joining_four _ _ _ _ c.loop-b.invariant _ refl (omega (arith, length-take (c.args.n / 4) c.args.t.states)) _ _ c.byte_condition.ensures c.join-closed.ensures

pub loop-e-init : goal.loop-e-init
loop-e-init c =
    let e : c.args.n / 4 * 4 ≡ 4 * c.loop-b.b-index = omega (arith, length-take (c.args.n / 4) c.args.t.states) in rw e c.loop-b.invariant

pub loop-e-preserved : goal.loop-e-preserved
loop-e-preserved c = joining_next _ _ _ _ c.loop-e.invariant c.loop-e-test.true _ _ _ c.state_in.ensures.0 c.state_condition.ensures c.join-closed-in-loop-e.ensures

pub returns : goal.returns
returns c = joining_all _ _ _ _ c.loop-e.invariant (omega arith) _ c.join.ensures
