use Prim.Native.Nat.{◌+◌, ◌-◌, ◌≤◌}
use mathlib.Core.Bool.{false, ◌&&◌}
use mathlib.Core.List.{map}
use mathlib.Core.Path.{◌∙◌, ◌≡◌}
use native.Mathlib.Omega.{arith}
use lib.ListN.{drop, get_or, length, take}
use Rattle.cut_edge_faults.proofs.Flags.{seeking_here, seeking_next, seeking_none, seeking_start}
use Rattle.edge.specs.Uses.{front_of}
use Rattle.lists.proofs.Split.{walk_fits}
use Rattle.lists.specs.Lists.{has}
use Rattle.wire.proofs.Laws.{outline_part}
use Rattle.cut_edge_faults.proofs.meets_vertex.Goals as goal
use Rattle.cut_edge_faults.proofs.meets_vertex.Goals.{After-from-n, After-wire_meets}

-- the uses of the wire are among them
fits : (c : After-from-n) → c.loop-k.at + c.from-n.result ≤ length c.args.wires.now.uses.now
fits c = omega (arith, walk_fits _ _ _ _ c.loop-k.invariant.walk c.loop-k-test.true c.from-n.ensures, c.requires.0)

-- the answer for the wire that the loop has come to
answer : (c : After-wire_meets) → c.loop-k.at + c.from-n.result ≤ length c.args.wires.now.uses.now
    → c.wire_meets.result ≡ (get_or c.args.flags.now c.loop-k.k false && has c.args.v.0 (map (front_of c.args.wires.now.ends.fronts.now c.args.wires.now.ends.backs.now) (take (c.loop-k.at + c.from-n.result - c.loop-k.at) (drop c.loop-k.at c.args.wires.now.uses.now))))
answer c inside = c.wire_meets.ensures ∙ rw (c.part.ensures.ends, c.part.ensures.uses, outline_part c.args.wires.now.uses.now c.loop-k.at c.from-n.result inside)

pub loop-k-init : goal.loop-k-init
loop-k-init c = seeking_start _ _ _ _ _

pub returns-then-wire_meets : goal.returns-then-wire_meets
returns-then-wire_meets c = let p = goal.at.returns-then-wire_meets c in
    seeking_here _ _ _ _ _ _ _ c.loop-k.invariant _ c.loop-k-test.true c.from-n.ensures (answer p.After-wire_meets (fits p.After-from-n)) c.if-wire_meets.true

pub overflow_add-at : goal.overflow_add-at
overflow_add-at c = omega (arith, fits (goal.at.overflow_add-at c).After-from-n)

pub loop-k-preserved : goal.loop-k-preserved
loop-k-preserved c = let p = goal.at.loop-k-preserved c in
    seeking_next _ _ _ _ _ _ _ c.loop-k.invariant _ c.loop-k-test.true c.from-n.ensures (answer p.After-wire_meets (fits p.After-from-n)) c.if-wire_meets.false

pub returns : goal.returns
returns c = seeking_none _ _ _ _ _ _ _ c.loop-k.invariant c.loop-k-test.false
