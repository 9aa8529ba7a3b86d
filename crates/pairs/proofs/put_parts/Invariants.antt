-- After so many turns what as many pairs show is stored.
use Rattle.pairs.proofs.Loops.{Laying}
use Rattle.pairs.proofs.put_parts.Given as goal

abbrev pub invariant-loop-pair : goal.invariant-loop-pair
invariant-loop-pair l = Laying l.parts.along.now l.parts.back.now l.parts.starts.now l.pairs l.initial.out l.out l.at l.pair-index
