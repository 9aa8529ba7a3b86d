use Prim.Native.Nat.{◌+◌, ◌-◌}
use mathlib.Core.Path.{◌∙◌, refl}
use native.Mathlib.Omega.{arith}
use Rattle.groups.proofs.Parts.{part_joins_all, part_joins_fits, part_joins_next, part_joins_start}
use Rattle.shell.specs.Singular.{corners}
use Rattle.singular.proofs.Ends.{below_part, corners_below}
use Rattle.singular.proofs.join_wires.Goals as goal

pub loop-n-init : goal.loop-n-init
loop-n-init c = let pre = c.requires in (part_joins_start corners _ _ _ _ _ (rw pre.0 at c.args.groups.now.forest) (omega (arith, pre.1.summed)), refl)

pub overflow_add-at : goal.overflow_add-at
overflow_add-at c = omega (arith, part_joins_fits corners c.loop-n.invariant.0 (omega arith) c.from-n.ensures)

pub offset_bounds-uses-at : goal.offset_bounds-uses-at
offset_bounds-uses-at c = omega (arith, part_joins_fits corners c.loop-n.invariant.0 (omega arith) c.from-n.ensures)

pub slice_bounds-join_wire-end : goal.slice_bounds-join_wire-end
slice_bounds-join_wire-end c = part_joins_fits corners c.loop-n.invariant.0 (omega arith) c.from-n.ensures

pub join_wire-requires : goal.join_wire-requires
join_wire-requires c = let loop = c.loop-n in
    (loop.invariant.1 ∙ c.requires.0, below_part _ c.args.uses.now loop.at (loop.at + c.from-n.result - loop.at) c.requires.1.edge)

pub overflow_add-at-in-loop-n : goal.overflow_add-at-in-loop-n
overflow_add-at-in-loop-n c = omega (arith, part_joins_fits corners c.loop-n.invariant.0 (omega arith) c.from-n.ensures)

pub loop-n-preserved : goal.loop-n-preserved
loop-n-preserved c = let loop = c.loop-n in
    let index = c.from-n in
    (part_joins_next corners loop.invariant.0 (omega arith) index.ensures (corners_below _ _ (below_part _ c.args.uses.now loop.at (loop.at + index.result - loop.at) c.requires.1.edge)) (c.join_wire.ensures.0, c.join_wire.ensures.1), c.join_wire.ensures.2 ∙ loop.invariant.1)

pub returns : goal.returns
returns c = let p = part_joins_all corners c.loop-n.invariant.0 (omega arith) in (p.0, p.1, c.loop-n.invariant.1)
