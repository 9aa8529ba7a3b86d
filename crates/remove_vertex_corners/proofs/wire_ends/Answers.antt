use Prim.Native.Nat.{◌+◌, ◌-◌, ◌≤◌}
use mathlib.Core.Path.{◌∙◌, ◌≡◌}
use native.Mathlib.Omega.{arith}
use lib.ListN.{drop, length, take}
use Rattle.lists.proofs.Split.{walk_fits}
use Rattle.remove_vertex_corners.proofs.Flagging.{flagging_all, flagging_next, flagging_start}
use Rattle.remove_vertex_corners.specs.Endings.{ends_at}
use Rattle.wire.proofs.Laws.{outline_part}
use Rattle.remove_vertex_corners.proofs.wire_ends.Goals as goal
use Rattle.remove_vertex_corners.proofs.wire_ends.Goals.{After-ends_at, After-from-n}

-- the uses of the wire are among those of all
fits : (c : After-from-n) → c.loop-w.at + c.from-n.result ≤ length c.args.wires.now.uses.now
fits c = omega (arith, walk_fits _ _ _ _ c.loop-w.invariant.walk c.loop-w-test.true c.from-n.ensures, c.requires.summed)

-- the answer for the wire that the loop has come to
answer : (c : After-ends_at) → c.loop-w.at + c.from-n.result ≤ length c.args.wires.now.uses.now
    → c.ends_at.result ≡ ends_at c.args.wires.now.ends.fronts.now c.args.wires.now.ends.backs.now c.args.v.0 (take (c.loop-w.at + c.from-n.result - c.loop-w.at) (drop c.loop-w.at c.args.wires.now.uses.now))
answer c inside = c.ends_at.ensures ∙ rw (c.part.ensures.ends, c.part.ensures.uses, outline_part c.args.wires.now.uses.now c.loop-w.at c.from-n.result inside)

pub loop-w-init : goal.loop-w-init
loop-w-init c = flagging_start (ends_at _ _ _) _ _

pub bounds-out-w : goal.bounds-out-w
bounds-out-w c = omega (arith, c.requires.few_wires)

pub overflow_add-at : goal.overflow_add-at
overflow_add-at c = omega (arith, c.requires.few_uses, fits (goal.at.overflow_add-at c).After-from-n)

pub loop-w-preserved : goal.loop-w-preserved
loop-w-preserved c = let p = goal.at.loop-w-preserved c in
    flagging_next (ends_at _ _ _) _ _ c.loop-w.invariant (omega arith) c.requires.few_wires c.from-n.ensures (answer p.After-ends_at (fits p.After-from-n))

pub returns : goal.returns
returns c = flagging_all (ends_at _ _ _) _ _ c.loop-w.invariant (omega arith)
