use mathlib.Core.Path.{refl}
use native.Mathlib.Omega.{arith}
use Rattle.sequence.proofs.Loops.{placing_all, placing_count, placing_few, placing_first, placing_key, placing_lens, placing_other, placing_out, placing_small, placing_start, placing_writable}
use Rattle.sequence.proofs.put_groups.Goals as goal
use Rattle.sequence.proofs.put_groups.Goals.{then-from-i, else-from-i}

pub loop-i-init : goal.loop-i-init
loop-i-init c = let pre = c.requires in
    placing_start _ _ _ _ _ _ pre.0 pre.1.0 pre.1.1.0 pre.1.1.1.0 pre.1.1.1.1

pub bounds-head-from : goal.bounds-head-from
bounds-head-from c = placing_key _ _ _ _ _ _ _ _ _ _ _ c.loop-i.invariant (omega arith) _ c.from.ensures

pub put_group-end-requires : goal.put_group-end-requires
put_group-end-requires c = placing_writable _ _ _ _ _ _ _ _ _ _ _ c.loop-i.invariant (omega arith) _ c.from.ensures _ c.from-in-loop-i.ensures c.if-from-i.true

pub overflow_sub-lens : goal.overflow_sub-lens
overflow_sub-lens c = (placing_small _ _ _ _ _ _ _ _ _ _ _ c.loop-i.invariant (omega arith) _ c.from.ensures _ c.from-in-loop-i.ensures c.if-from-i.true _ c.put_group-end.ensures.value).0

pub overflow_cast-lens : goal.overflow_cast-lens
overflow_cast-lens c = omega (arith, (placing_small _ _ _ _ _ _ _ _ _ _ _ c.loop-i.invariant (omega arith) _ c.from.ensures _ c.from-in-loop-i.ensures c.if-from-i.true _ c.put_group-end.ensures.value).1)

pub offset_bounds-lens-count : goal.offset_bounds-lens-count
offset_bounds-lens-count c = omega (arith, placing_few _ _ _ _ _ _ _ _ _ _ _ c.loop-i.invariant)

pub bounds-lens-count : goal.bounds-lens-count
bounds-lens-count c = placing_count _ _ _ _ _ _ _ _ _ _ _ c.loop-i.invariant (omega arith) _ c.from.ensures _ c.from-in-loop-i.ensures c.if-from-i.true

pub overflow_add-count : goal.overflow_add-count
overflow_add-count c = omega (arith, placing_few _ _ _ _ _ _ _ _ _ _ _ c.loop-i.invariant)

pub shape_of-out : goal.shape_of-out
shape_of-out c = placing_out _ _ _ _ _ _ _ _ _ _ _ c.loop-i.invariant

pub shape_of-lens : goal.shape_of-lens
shape_of-lens c = placing_lens _ _ _ _ _ _ _ _ _ _ _ c.loop-i.invariant

pub returns-clause-out_after : goal.returns-clause-out_after
returns-clause-out_after c = let p = placing_all _ _ _ _ _ _ _ _ _ _ _ c.loop-i.invariant (omega arith) in p.0

pub returns-clause-lens_after : goal.returns-clause-lens_after
returns-clause-lens_after c = let p = placing_all _ _ _ _ _ _ _ _ _ _ _ c.loop-i.invariant (omega arith) in p.1.0

pub returns-clause-value : goal.returns-clause-value
returns-clause-value c = let p = placing_all _ _ _ _ _ _ _ _ _ _ _ c.loop-i.invariant (omega arith) in p.1.1

pub loop-i-preserved : goal.loop-i-preserved
loop-i-preserved c = let loop = c.loop-i in let index = c.from in
    elim c.if-from-i.branch [
      | then-from-i w ↦ rw (w.out-is, w.lens-is, w.at-is, w.count-is) (placing_first _ _ _ _ _ _ _ _ _ _ _ loop.invariant (omega arith) _ index.ensures _ c.from-in-loop-i.ensures w.if-from-i.true _ _ _ w.put_group-end.ensures.out_after w.put_group-end.ensures.value refl)
      | else-from-i w ↦ rw (w.out-is, w.lens-is, w.at-is, w.count-is) (placing_other _ _ _ _ _ _ _ _ _ _ _ loop.invariant (omega arith) _ index.ensures _ c.from-in-loop-i.ensures w.if-from-i.false)
    ]
