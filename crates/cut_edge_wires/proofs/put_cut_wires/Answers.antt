use Prim.Native.Nat.{◌+◌, ◌-◌, ◌≤◌, ℕ}
use mathlib.Core.List.{List}
use mathlib.Core.Path.{◌∙◌, ◌≡◌, sym}
use native.Mathlib.Omega.{arith}
use lib.ListN.{drop, length, take}
use Rattle.cut_edge_wires.proofs.Put.{putting_lens, putting_next, putting_out, putting_room, putting_size, putting_start}
use Rattle.cut_edge_wires.specs.Halves.{cut_flagged}
use Rattle.lists.proofs.Split.{walk_fits}
use Rattle.wire.proofs.Laws.{outline_part}
use Rattle.cut_edge_wires.proofs.put_cut_wires.Goals as goal
use Rattle.cut_edge_wires.proofs.put_cut_wires.Goals.{After-from-n, After-part}

fits : (c : After-from-n) → c.loop-k.from + c.from-n.result ≤ length c.args.wires.now.uses.now
fits c = omega (arith, walk_fits _ _ _ _ c.loop-k.invariant.walk c.loop-k-test.true c.from-n.ensures, c.requires.lens_in_bounds.0)

-- the wire after the cut
abbrev here : After-from-n → List ℕ
here c = cut_flagged c.args.flags.now c.args.e.0 c.args.a c.loop-k.k (take (c.loop-k.from + c.from-n.result - c.loop-k.from) (drop c.loop-k.from c.args.wires.now.uses.now))

-- there is room for the wire
room : (c : After-from-n) → c.loop-k.at + length (here c) ≤ length c.loop-k.out
room c = putting_room _ _ _ c.loop-k.invariant _ c.loop-k-test.true c.from-n.ensures c.requires.uses_in_bounds.0

-- the wire that is lent is that part of all
part_is : (c : After-part) → c.loop-k.from + c.from-n.result ≤ length c.args.wires.now.uses.now
    → c.part.result.uses.now ≡ take (c.loop-k.from + c.from-n.result - c.loop-k.from) (drop c.loop-k.from c.args.wires.now.uses.now)
part_is c inside = c.part.ensures.uses ∙ sym (outline_part c.args.wires.now.uses.now c.loop-k.from c.from-n.result inside)

pub loop-k-init : goal.loop-k-init
loop-k-init c = putting_start _ _ _ _ _

pub put_wire-m-requires-clause-halved : goal.put_wire-m-requires-clause-halved
put_wire-m-requires-clause-halved c = rw c.part.ensures.ends c.requires.halved

pub put_wire-m-requires-clause-uses_in_bounds : goal.put_wire-m-requires-clause-uses_in_bounds
put_wire-m-requires-clause-uses_in_bounds c = let p = goal.at.put_wire-m-requires-clause-uses_in_bounds c in
    rw (part_is p.After-part (fits p.After-from-n)) (room p.After-from-n)

pub overflow_cast-sizes : goal.overflow_cast-sizes
overflow_cast-sizes c = let p = goal.at.overflow_cast-sizes c in
    let m = rw (part_is p.After-part (fits p.After-from-n)) at c.put_wire-m.ensures.value in
    omega (arith, room p.After-from-n, m, c.loop-k.invariant.out_long, c.requires.uses_in_bounds.2)

pub overflow_add-from : goal.overflow_add-from
overflow_add-from c = omega (arith, fits (goal.at.overflow_add-from c).After-from-n, c.requires.uses_in_bounds.1)

pub overflow_add-at : goal.overflow_add-at
overflow_add-at c = let p = goal.at.overflow_add-at c in
    let m = rw (part_is p.After-part (fits p.After-from-n)) at c.put_wire-m.ensures.value in
    omega (arith, room p.After-from-n, m, c.loop-k.invariant.out_long, c.requires.uses_in_bounds.2)

pub loop-k-preserved : goal.loop-k-preserved
loop-k-preserved c = let p = goal.at.loop-k-preserved c in
    let e = part_is p.After-part (fits p.After-from-n) in
    let m = rw e at c.put_wire-m.ensures.value in
    let o = rw e at c.put_wire-m.ensures.out_after in
    putting_next _ _ _ c.loop-k.invariant _ c.loop-k-test.true c.from-n.ensures _ _ m o

pub returns-clause-value : goal.returns-clause-value
returns-clause-value c = putting_size _ _ _ c.loop-k.invariant c.loop-k-test.false

pub returns-clause-out_after : goal.returns-clause-out_after
returns-clause-out_after c = putting_out _ _ _ c.loop-k.invariant c.loop-k-test.false

pub returns-clause-sizes_after : goal.returns-clause-sizes_after
returns-clause-sizes_after c = putting_lens _ _ _ c.loop-k.invariant c.loop-k-test.false
