use Prim.Native.Nat.{◌+◌, ◌≤◌}
use native.Mathlib.Omega.{arith}
use lib.ListN.{length}
use Rattle.lines.proofs.Loops.{lining_all, lining_fits, lining_next, lining_room, lining_start}
use Rattle.answer_lines.specs.AnswerLines.{wire_text, wires_text}
use Rattle.answer_lines.proofs.put_wires.Goals as goal
use Rattle.answer_lines.proofs.put_wires.Goals.{After-from-n}

-- the part lies within the items
fits : (c : After-from-n) → c.loop-len.start + c.from-n.result ≤ length c.args.us.now
fits c = lining_fits wire_text c.loop-len.invariant c.loop-len-test.true c.from-n.ensures

pub loop-len-init : goal.loop-len-init
unfolding wires_text
loop-len-init c = let pre = c.requires in lining_start wire_text _ _ _ _ pre.0 pre.1

pub overflow_add-start : goal.overflow_add-start
overflow_add-start c = omega (arith, fits (goal.at.overflow_add-start c).After-from-n)

pub offset_bounds-us-start : goal.offset_bounds-us-start
offset_bounds-us-start c = omega (arith, fits (goal.at.offset_bounds-us-start c).After-from-n)

pub slice_bounds-put_wire-end : goal.slice_bounds-put_wire-end
slice_bounds-put_wire-end c = fits (goal.at.slice_bounds-put_wire-end c).After-from-n

pub put_wire-end-requires : goal.put_wire-end-requires
put_wire-end-requires c = lining_room wire_text c.loop-len.invariant c.loop-len-test.true c.from-n.ensures

pub overflow_add-start-in-loop-len : goal.overflow_add-start-in-loop-len
overflow_add-start-in-loop-len c = omega (arith, fits (goal.at.overflow_add-start-in-loop-len c).After-from-n)

pub loop-len-preserved : goal.loop-len-preserved
loop-len-preserved c = lining_next wire_text c.loop-len.invariant c.loop-len-test.true c.from-n.ensures _ _ c.put_wire-end.ensures

pub shape_of-out : goal.shape_of-out
shape_of-out c = c.loop-len.invariant.putting.long

pub returns : goal.returns
unfolding wires_text
returns c = lining_all wire_text c.loop-len.invariant c.loop-len-test.false
