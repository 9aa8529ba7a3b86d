-- At each turn: the lowest that the edges so far make of the condition. First four edges at a turn, then one.
use Rattle.std.proofs.Common.{◌*◌}
use Rattle.condition.proofs.Loops.{Joining}
use Rattle.condition.proofs.condition_of.Given as goal

abbrev pub invariant-loop-b : goal.invariant-loop-b
invariant-loop-b l = Joining l.fn.t l.n l.closed.0 (4 * l.b-index)

abbrev pub invariant-loop-e : goal.invariant-loop-e
invariant-loop-e l = Joining l.t l.n l.closed.0 l.e
