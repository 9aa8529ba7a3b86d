use Prim.Native.Nat.{◌-◌, ◌+◌}
use mathlib.Core.Path.{◌∙◌, ◌≡◌}
use native.Mathlib.Omega.{arith}
use Rattle.scheduler.proofs.Laws.{found, looked_at_all, passed}
use Rattle.scheduler.proofs.Scheduler.next.Goals as goal

pub loop-preserved : goal.loop-preserved
loop-preserved c =
    let e : 8 - (c.loop.counter + 1) ≡ 8 - c.loop.counter - 1 = omega arith in
    rw e (passed _ (8 - c.loop.counter) c.loop.d _ (omega arith) (omega arith) c.in_default.is ∙ c.loop.invariant)

pub returns-in-Some : goal.returns-in-Some
returns-in-Some c = found _ (8 - c.loop.counter) c.loop.d _ (omega arith) (omega arith) c.in-Some.is ∙ c.loop.invariant

pub returns : goal.returns
returns c = looked_at_all _ (8 - c.loop.counter) c.loop.d (omega arith) ∙ c.loop.invariant
