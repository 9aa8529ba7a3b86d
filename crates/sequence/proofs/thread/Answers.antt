use native.Mathlib.Omega.{arith}
use Rattle.sequence.proofs.Loops.{threading_heads, threading_key, threading_next, threading_nexts, threading_start}
use Rattle.sequence.proofs.thread.Goals as goal

pub loop-j-init : goal.loop-j-init
loop-j-init c = threading_start _ _ _ c.requires

pub bounds-head-k : goal.bounds-head-k
bounds-head-k c = threading_key _ _ _ _ _ _ c.loop-j.invariant _ _ c.from-k.ensures (omega arith)

pub bounds-head-k-in-loop-j : goal.bounds-head-k-in-loop-j
bounds-head-k-in-loop-j c = threading_key _ _ _ _ _ _ c.loop-j.invariant _ _ c.from-k.ensures (omega arith)

pub loop-j-preserved : goal.loop-j-preserved
loop-j-preserved c = threading_next _ _ _ _ _ _ c.loop-j.invariant c.loop-j-test.true _ c.from-k.ensures

pub returns-clause-heads : goal.returns-clause-heads
returns-clause-heads c = threading_heads _ _ _ _ _ _ c.loop-j.invariant c.loop-j-test.false

pub returns-clause-nexts : goal.returns-clause-nexts
returns-clause-nexts c = threading_nexts _ _ _ _ _ _ c.loop-j.invariant c.loop-j-test.false
