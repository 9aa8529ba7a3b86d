-- The slots from k on are read.
use Rattle.scheduler_state.proofs.Laws.{From}
use Rattle.scheduler_state.proofs.scheduler_in.Given as goal

abbrev pub invariant-loop-k : goal.invariant-loop-k
invariant-loop-k l = From l.k l.numbers l.slots
