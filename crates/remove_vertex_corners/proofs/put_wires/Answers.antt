use Prim.Native.Nat.{◌+◌, ◌-◌, ◌≤◌}
use mathlib.Core.Path.{◌∙◌, ◌≡◌, sym}
use lib.ListN.{drop, length, take}
use native.Mathlib.Omega.{arith}
use Rattle.remove_vertex_corners.proofs.Wires.{Written, lens_long, out_long, putting_all, putting_fits, putting_long, putting_next, putting_start}
use Rattle.remove_vertex_corners.specs.Corners.{removed_wire}
use Rattle.wire.proofs.Laws.{outline_part}
use Rattle.remove_vertex_corners.proofs.put_wires.Goals as goal
use Rattle.remove_vertex_corners.proofs.put_wires.Goals.{After-from-n, After-part, After-put_wire-m}

-- the uses of the wire are among them, and as many as its length
fits : (c : After-from-n) → c.loop-w.from + c.from-n.result ≤ length c.args.wires.now.uses.now
fits c = putting_fits (removed_wire _ _ _ c.args.e _) _ _ _ _ c.loop-w.invariant c.loop-w-test.true c.from-n.ensures c.requires.wire_tables.summed

wire_long : (c : After-from-n) → length (take (c.loop-w.from + c.from-n.result - c.loop-w.from) (drop c.loop-w.from c.args.wires.now.uses.now)) ≡ c.from-n.result
wire_long c = putting_long (removed_wire _ _ _ c.args.e _) _ _ _ _ c.loop-w.invariant c.loop-w-test.true c.from-n.ensures c.requires.wire_tables.summed

-- the wire that is lent is that part of all
part_is : (c : After-part) → c.loop-w.from + c.from-n.result ≤ length c.args.wires.now.uses.now
    → c.part.result.uses.now ≡ take (c.loop-w.from + c.from-n.result - c.loop-w.from) (drop c.loop-w.from c.args.wires.now.uses.now)
part_is c inside = c.part.ensures.uses ∙ sym (outline_part c.args.wires.now.uses.now c.loop-w.from c.from-n.result inside)

pair : {A B : Type 0} → A → B → A × B
pair a b = (a, b)

-- the wire is written
wire_written : (c : After-put_wire-m) → c.part.result.uses.now ≡ take (c.loop-w.from + c.from-n.result - c.loop-w.from) (drop c.loop-w.from c.args.wires.now.uses.now)
    → Written (take (c.loop-w.from + c.from-n.result - c.loop-w.from) (drop c.loop-w.from c.args.wires.now.uses.now)) c.loop-w.out c.loop-w.at c.put_wire-m.new.out c.put_wire-m.result (removed_wire c.args.wires.now.ends.fronts.now c.args.wires.now.ends.backs.now c.args.v.0 c.args.e c.args.a c.loop-w.w (take (c.loop-w.from + c.from-n.result - c.loop-w.from) (drop c.loop-w.from c.args.wires.now.uses.now)))
wire_written c e = rw (c.part.ensures.ends, e) at (pair c.put_wire-m.ensures.out_after c.put_wire-m.ensures.value)

pub loop-w-init : goal.loop-w-init
loop-w-init c = putting_start (removed_wire _ _ _ c.args.e _) _ _ _ _

pub put_wire-m-requires : goal.put_wire-m-requires
put_wire-m-requires c = let p = goal.at.put_wire-m-requires c in
    let inside = fits p.After-from-n in
    let long = wire_long p.After-from-n in
    rw (part_is p.After-part inside) (omega (arith, long, c.requires.wire_tables.paired c.loop-w.w (omega arith), c.from-n.ensures), omega (arith, long, inside, c.loop-w.invariant.less, out_long (removed_wire _ _ _ c.args.e _) _ _ _ _ c.loop-w.invariant, c.requires.in_bounds.1), c.requires.in_bounds.2)

pub overflow_cast-sizes : goal.overflow_cast-sizes
overflow_cast-sizes c = let p = goal.at.overflow_cast-sizes c in
    let inside = fits p.After-from-n in
    omega (arith, c.requires.wire_tables.few_uses, inside, wire_long p.After-from-n, (wire_written p.After-put_wire-m (part_is p.After-part inside)).1.1)

pub bounds-sizes-w : goal.bounds-sizes-w
bounds-sizes-w c = omega (arith, lens_long (removed_wire _ _ _ c.args.e _) _ _ _ _ c.loop-w.invariant, c.requires.in_bounds.0)

pub overflow_add-from : goal.overflow_add-from
overflow_add-from c = omega (arith, c.requires.wire_tables.few_uses, fits (goal.at.overflow_add-from c).After-from-n)

pub overflow_add-at : goal.overflow_add-at
overflow_add-at c = let p = goal.at.overflow_add-at c in
    let inside = fits p.After-from-n in
    omega (arith, c.requires.wire_tables.few_uses, inside, wire_long p.After-from-n, c.loop-w.invariant.less, (wire_written p.After-put_wire-m (part_is p.After-part inside)).1.1)

pub loop-w-preserved : goal.loop-w-preserved
loop-w-preserved c = let p = goal.at.loop-w-preserved c in
    putting_next (removed_wire _ _ _ c.args.e _) _ _ _ _ c.loop-w.invariant (omega arith) c.from-n.ensures c.requires.wire_tables.summed (wire_written p.After-put_wire-m (part_is p.After-part (fits p.After-from-n)))

pub shape_of-out : goal.shape_of-out
shape_of-out c = out_long (removed_wire _ _ _ c.args.e _) _ _ _ _ c.loop-w.invariant

pub shape_of-sizes : goal.shape_of-sizes
shape_of-sizes c = lens_long (removed_wire _ _ _ c.args.e _) _ _ _ _ c.loop-w.invariant

pub returns-clause-out_after : goal.returns-clause-out_after
returns-clause-out_after c = (putting_all (removed_wire _ _ _ c.args.e _) _ _ _ _ c.loop-w.invariant (omega arith) c.requires.wire_tables.summed).0

pub returns-clause-sizes_after : goal.returns-clause-sizes_after
returns-clause-sizes_after c = (putting_all (removed_wire _ _ _ c.args.e _) _ _ _ _ c.loop-w.invariant (omega arith) c.requires.wire_tables.summed).1.0

pub returns-clause-value : goal.returns-clause-value
returns-clause-value c = (putting_all (removed_wire _ _ _ c.args.e _) _ _ _ _ c.loop-w.invariant (omega arith) c.requires.wire_tables.summed).1.1
