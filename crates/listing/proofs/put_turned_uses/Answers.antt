use mathlib.Core.Path.{◌∙◌, ap, sym}
use native.Mathlib.Omega.{arith}
use lib.ListN.{length, length-replicate}
use Prim.Native.Nat.{ℕ}
use Rattle.listing.proofs.Loops.{turning_all, turning_fits, turning_long, turning_next, turning_room, turning_start}
use Rattle.listing.proofs.put_turned_uses.Goals as goal

pub loop-n-init : goal.loop-n-init
loop-n-init c = let pre = c.requires in turning_start _ _ _ pre.0 pre.2 pre.3

pub overflow_add-at : goal.overflow_add-at
overflow_add-at c = omega (arith, turning_fits c.loop-n.invariant (omega arith) c.from-n.ensures)

pub offset_bounds-uses-at : goal.offset_bounds-uses-at
offset_bounds-uses-at c = omega (arith, turning_fits c.loop-n.invariant (omega arith) c.from-n.ensures)

pub slice_bounds-put_turned-end : goal.slice_bounds-put_turned-end
slice_bounds-put_turned-end c = turning_fits c.loop-n.invariant (omega arith) c.from-n.ensures

pub put_turned-requires : goal.put_turned-requires
put_turned-requires c = turning_room c.loop-n.invariant (omega arith) c.from-n.ensures

pub overflow_add-at-in-loop-n : goal.overflow_add-at-in-loop-n
overflow_add-at-in-loop-n c = omega (arith, turning_fits c.loop-n.invariant (omega arith) c.from-n.ensures)

pub loop-n-preserved : goal.loop-n-preserved
loop-n-preserved c = turning_next c.loop-n.invariant (omega arith) c.from-n.ensures _ c.put_turned.ensures

pub shape_of-out : goal.shape_of-out
shape_of-out c = turning_long c.loop-n.invariant ∙ sym (ap length c.requires.3 ∙ length-replicate {A = ℕ} 4096 0)

pub returns : goal.returns
returns c = turning_all c.loop-n.invariant (omega arith)
