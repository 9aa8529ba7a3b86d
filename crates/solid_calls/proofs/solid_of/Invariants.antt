-- The first n shells have no error.
use Rattle.solid_calls.proofs.Solids.{Checking}
use Rattle.solid_calls.proofs.solid_of.Given as goal

abbrev pub invariant-loop-n : goal.invariant-loop-n
invariant-loop-n l = Checking l.columns.t.now l.n
