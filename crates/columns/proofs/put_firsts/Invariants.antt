-- After k turns the first k places are stored.
use Rattle.columns.proofs.Loops.{Firsting}
use Rattle.columns.proofs.put_firsts.Given as goal

abbrev pub invariant-loop-k : goal.invariant-loop-k
invariant-loop-k l = Firsting l.counts l.out l.k l.at
