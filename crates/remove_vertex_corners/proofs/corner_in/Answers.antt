use Prim.Native.Nat.{◌<◌}
use mathlib.Core.Path.{◌∙◌, ◌≡◌, ap, sym}
use mathlib.Core.List.{[]}
use native.Mathlib.Omega.{arith}
use lib.ListN.{get_or, length, length-take}
use lib.Seq.{length-take-le}
use Rattle.lists.specs.Lists.{split}
use Rattle.remove_vertex_corners.proofs.Places.{corner_named, part_long, wire_part}
use Rattle.remove_vertex_corners.proofs.corner_in.Goals as goal
use Rattle.remove_vertex_corners.proofs.corner_in.Goals.{After-part}

-- the wire that is lent is wire w, and has uses
part_is : (c : After-part) → c.part.result.uses.now ≡ get_or (split c.args.lens.now c.args.wires.now.uses.now) c.args.w []
part_is c = c.part.ensures.uses ∙ wire_part c.args.lens.now c.args.wires.now.uses.now c.requires.w_bound c.sum_of-start.ensures c.from-n.ensures c.requires.wire_tables.summed

some : (c : After-part) → c.part.result.uses.now ≡ get_or (split c.args.lens.now c.args.wires.now.uses.now) c.args.w [] → 0 < length c.part.result.uses.now
some c e = let r = c.requires in
    omega (arith, ap length e, part_long c.args.lens.now c.args.wires.now.uses.now c.args.w r.wire_tables.summed r.w_bound, r.wire_tables.paired c.args.w r.w_bound)

pub slice_bounds-sum_of-end : goal.slice_bounds-sum_of-end
slice_bounds-sum_of-end c = sym (length-take-le c.args.w c.args.lens.now (omega (arith, c.requires.w_bound)))

pub sum_of-start-requires : goal.sum_of-start-requires
sum_of-start-requires c = omega (arith, length-take c.args.w c.args.lens.now, c.requires.wire_tables.few_wires)

pub corner_of-requires : goal.corner_of-requires
corner_of-requires c = let p = (goal.at.corner_of-requires c).After-part in some p (part_is p)

pub returns-clause-value : goal.returns-clause-value
returns-clause-value c = c.corner_of.ensures ∙ rw (c.part.ensures.ends, part_is (goal.at.returns-clause-value c).After-part)

pub returns-clause-ending_in_bounds : goal.returns-clause-ending_in_bounds
returns-clause-ending_in_bounds c = let p = (goal.at.returns-clause-ending_in_bounds c).After-part in
    rw c.part.ensures.ends at (corner_named _ _ c.args.v.0 c.part.result.named (some p (part_is p)) c.corner_of.ensures)
