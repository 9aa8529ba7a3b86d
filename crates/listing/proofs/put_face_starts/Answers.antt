use Prim.Native.Nat.{ℕ}
use mathlib.Core.Path.{◌∙◌, ap, sym}
use native.Mathlib.Omega.{arith}
use lib.ListN.{length, length-replicate, length-set}
use Rattle.listing.proofs.Loops.{starting_all, starting_fits, starting_long, starting_low, starting_next, starting_part, starting_start, sum_small}
use Rattle.listing.proofs.put_face_starts.Goals as goal

pub loop-k-init : goal.loop-k-init
loop-k-init c = let pre = c.requires in starting_start _ _ _ pre.0 pre.1 pre.3

pub bounds-out-k : goal.bounds-out-k
bounds-out-k c = omega (arith, starting_long c.loop-k.invariant, c.requires.0)

pub overflow_add-at : goal.overflow_add-at
overflow_add-at c = omega (arith, starting_fits c.loop-k.invariant (omega arith) c.from-m.ensures)

pub offset_bounds-wires-at : goal.offset_bounds-wires-at
offset_bounds-wires-at c = omega (arith, starting_fits c.loop-k.invariant (omega arith) c.from-m.ensures)

pub slice_bounds-sum_of-end : goal.slice_bounds-sum_of-end
slice_bounds-sum_of-end c = starting_fits c.loop-k.invariant (omega arith) c.from-m.ensures

pub sum_of-start-requires : goal.sum_of-start-requires
sum_of-start-requires c = omega (arith, starting_part c.loop-k.invariant (omega arith) c.from-m.ensures, c.requires.2)

pub overflow_add-start : goal.overflow_add-start
overflow_add-start c = omega (arith, starting_low c.loop-k.invariant (omega arith) c.from-m.ensures c.sum_of-start.ensures, sum_small c.args.wires.now (λ k. omega (arith, c.type_inv.wires k)))

pub overflow_add-at-in-loop-k : goal.overflow_add-at-in-loop-k
overflow_add-at-in-loop-k c = omega (arith, starting_fits c.loop-k.invariant (omega arith) c.from-m.ensures)

pub loop-k-preserved : goal.loop-k-preserved
loop-k-preserved c = starting_next c.loop-k.invariant (omega arith) c.from-m.ensures c.sum_of-start.ensures

pub bounds-out-counts : goal.bounds-out-counts
bounds-out-counts c = omega (arith, starting_long c.loop-k.invariant, c.requires.0)

pub shape_of-out : goal.shape_of-out
shape_of-out c = simp length-set (starting_long c.loop-k.invariant ∙ sym (ap length c.requires.3 ∙ length-replicate {A = ℕ} 257 0))

pub returns : goal.returns
returns c = starting_all c.loop-k.invariant (omega arith)
