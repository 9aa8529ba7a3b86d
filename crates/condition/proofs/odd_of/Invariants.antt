-- After e turns the first e edges are written.
use Rattle.condition.proofs.Loops.{Writing}
use Rattle.condition.proofs.odd_of.Given as goal

abbrev pub invariant-loop-e : goal.invariant-loop-e
invariant-loop-e l = Writing l.t l.n l.out l.e
