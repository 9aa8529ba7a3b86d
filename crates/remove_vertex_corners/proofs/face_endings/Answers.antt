use Prim.Native.Nat.{◌+◌, ◌≤◌}
use Rattle.lists.specs.Lists.{sum}
use native.Mathlib.Omega.{arith}
use Rattle.lists.proofs.Split.{walk_fits}
use Rattle.remove_vertex_corners.proofs.Endings.{faces_all, faces_next, faces_start}
use Rattle.remove_vertex_corners.proofs.face_endings.Goals as goal
use Rattle.remove_vertex_corners.proofs.face_endings.Goals.{After-from-n}

-- the wires of the face are among those of all
fits : (c : After-from-n) → c.loop-f.at + c.from-n.result ≤ sum c.args.counts.now
fits c = walk_fits _ _ _ _ c.loop-f.invariant.walk c.loop-f-test.true c.from-n.ensures

pub loop-f-init : goal.loop-f-init
loop-f-init c = faces_start _ _

pub ending_among-e-requires : goal.ending_among-e-requires
ending_among-e-requires c = let pre = c.requires in (omega (arith, fits (goal.at.ending_among-e-requires c).After-from-n, pre.1), omega (arith, fits (goal.at.ending_among-e-requires c).After-from-n, pre.2))

pub bounds-out-f : goal.bounds-out-f
bounds-out-f c = omega (arith, c.requires.0)

pub overflow_add-at : goal.overflow_add-at
overflow_add-at c = omega (arith, fits (goal.at.overflow_add-at c).After-from-n, c.requires.2)

pub loop-f-preserved : goal.loop-f-preserved
loop-f-preserved c = faces_next _ _ c.loop-f.invariant (omega arith) c.requires.0 c.from-n.ensures c.ending_among-e.ensures

pub returns : goal.returns
returns c = faces_all _ _ c.loop-f.invariant (omega arith)
