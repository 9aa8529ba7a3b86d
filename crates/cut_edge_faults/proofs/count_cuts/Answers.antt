use Prim.Native.Nat.{◌+◌, ◌≤◌}
use native.Mathlib.Omega.{arith}
use lib.ListN.{length}
use Rattle.cut_edge_faults.proofs.Flags.{counting_all, counting_next, counting_start}
use Rattle.lists.proofs.Split.{walk_fits}
use Rattle.cut_edge_faults.proofs.count_cuts.Goals as goal
use Rattle.cut_edge_faults.proofs.count_cuts.Goals.{After-from-n}

-- the uses of the wire are among them
fits : (c : After-from-n) → c.loop-k.at + c.from-n.result ≤ length c.args.uses.now
fits c = omega (arith, walk_fits _ _ _ _ c.loop-k.invariant.walk c.loop-k-test.true c.from-n.ensures, c.requires.0)

pub loop-k-init : goal.loop-k-init
loop-k-init c = counting_start _ _ _ _

pub overflow_add-at : goal.overflow_add-at
overflow_add-at c = omega (arith, fits (goal.at.overflow_add-at c).After-from-n)

pub offset_bounds-uses-at : goal.offset_bounds-uses-at
offset_bounds-uses-at c = omega (arith, fits (goal.at.offset_bounds-uses-at c).After-from-n)

pub slice_bounds-wire_cuts-end : goal.slice_bounds-wire_cuts-end
slice_bounds-wire_cuts-end c = omega (arith, fits (goal.at.slice_bounds-wire_cuts-end c).After-from-n)

pub overflow_add-at-in-loop-k : goal.overflow_add-at-in-loop-k
overflow_add-at-in-loop-k c = omega (arith, fits (goal.at.overflow_add-at-in-loop-k c).After-from-n)

pub loop-k-preserved : goal.loop-k-preserved
loop-k-preserved c = counting_next _ _ _ _ _ _ _ c.loop-k.invariant _ _ c.loop-k-test.true c.from-n.ensures c.wire_cuts-count.ensures.0

pub returns : goal.returns
returns c = (counting_all _ _ _ _ _ _ _ c.loop-k.invariant c.loop-k-test.false, omega (arith, c.loop-k.invariant.low, c.loop-k.invariant.walk.low, c.requires.3))
