-- After k turns the pairs of the first k listings are written and marked.
use Rattle.pairs.proofs.Loops.{Pairing}
use Rattle.pairs.proofs.distinct.Given as goal

abbrev pub invariant-loop-l : goal.invariant-loop-l
invariant-loop-l l = Pairing l.listings l.firsts l.initial.out l.marks l.out l.at l.l-index
