use Prim.Native.Nat.{◌+◌, ◌-◌}
use mathlib.Core.Path.{◌∙◌, refl}
use native.Mathlib.Omega.{arith}
use Rattle.groups.proofs.Parts.{part_joins_all, part_joins_fits, part_joins_next, part_joins_start}
use Rattle.connected.proofs.Loops.{below_part, inside_part}
use Rattle.connected.specs.Wired.{neighbours}
use Rattle.connected.proofs.join_faces.Goals as goal

pub loop-m-init : goal.loop-m-init
loop-m-init c = let pre = c.requires in (part_joins_start neighbours _ _ _ _ _ c.args.groups.now.forest pre.0, refl)

pub overflow_add-at : goal.overflow_add-at
overflow_add-at c = omega (arith, part_joins_fits neighbours c.loop-m.invariant.0 (omega arith) c.from-m.ensures)

pub offset_bounds-firsts-at : goal.offset_bounds-firsts-at
offset_bounds-firsts-at c = omega (arith, part_joins_fits neighbours c.loop-m.invariant.0 (omega arith) c.from-m.ensures)

pub slice_bounds-join_next-end : goal.slice_bounds-join_next-end
slice_bounds-join_next-end c = part_joins_fits neighbours c.loop-m.invariant.0 (omega arith) c.from-m.ensures

pub join_next-requires : goal.join_next-requires
join_next-requires c = let loop = c.loop-m in
    rw loop.invariant.1 (below_part _ c.args.firsts.now loop.at (loop.at + c.from-m.result - loop.at) c.requires.1)

pub overflow_add-at-in-loop-m : goal.overflow_add-at-in-loop-m
overflow_add-at-in-loop-m c = omega (arith, part_joins_fits neighbours c.loop-m.invariant.0 (omega arith) c.from-m.ensures)

pub loop-m-preserved : goal.loop-m-preserved
loop-m-preserved c = let loop = c.loop-m in
    let index = c.from-m in
    (part_joins_next neighbours loop.invariant.0 (omega arith) index.ensures (inside_part _ c.args.firsts.now loop.at (loop.at + index.result - loop.at) c.requires.1) (c.join_next.ensures.0, c.join_next.ensures.1), c.join_next.ensures.2 ∙ loop.invariant.1)

pub returns : goal.returns
returns c = let p = part_joins_all neighbours c.loop-m.invariant.0 (omega arith) in (p.0, p.1, c.loop-m.invariant.1)
