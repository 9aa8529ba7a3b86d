use Prim.Native.Nat.{◌+◌, ◌≤◌}
use native.Mathlib.Omega.{arith}
use lib.ListN.{length}
use Rattle.lines.proofs.Loops.{lining_all, lining_fits, lining_next, lining_room, lining_start}
use Rattle.lines.specs.Parts.{word_line}
use Rattle.lines.proofs.put_lines.Goals as goal
use Rattle.lines.proofs.put_lines.Goals.{After-from-n}

-- the part lies within the items
fits : (c : After-from-n) → c.loop-len.start + c.from-n.result ≤ length c.args.items.now
fits c = lining_fits (word_line c.args.word.now) c.loop-len.invariant c.loop-len-test.true c.from-n.ensures

pub loop-len-init : goal.loop-len-init
loop-len-init c = lining_start (word_line c.args.word.now) _ _ _ _ c.requires.0 c.requires.1

pub overflow_add-start : goal.overflow_add-start
overflow_add-start c = omega (arith, fits (goal.at.overflow_add-start c).After-from-n)

pub offset_bounds-items-start : goal.offset_bounds-items-start
offset_bounds-items-start c = omega (arith, fits (goal.at.offset_bounds-items-start c).After-from-n)

pub slice_bounds-put_line-end : goal.slice_bounds-put_line-end
slice_bounds-put_line-end c = fits (goal.at.slice_bounds-put_line-end c).After-from-n

pub put_line-end-requires : goal.put_line-end-requires
put_line-end-requires c = lining_room (word_line c.args.word.now) c.loop-len.invariant c.loop-len-test.true c.from-n.ensures

pub overflow_add-start-in-loop-len : goal.overflow_add-start-in-loop-len
overflow_add-start-in-loop-len c = omega (arith, fits (goal.at.overflow_add-start-in-loop-len c).After-from-n)

pub loop-len-preserved : goal.loop-len-preserved
loop-len-preserved c = lining_next (word_line c.args.word.now) c.loop-len.invariant c.loop-len-test.true c.from-n.ensures _ _ c.put_line-end.ensures

pub shape_of-out : goal.shape_of-out
shape_of-out c = c.loop-len.invariant.putting.long

pub returns : goal.returns
returns c = lining_all (word_line c.args.word.now) c.loop-len.invariant c.loop-len-test.false
