-- After k turns the spans of the first k pairs are written.
use Rattle.pairs.proofs.Loops.{Spanning}
use Rattle.pairs.proofs.put_spans.Given as goal

abbrev pub invariant-loop-k : goal.invariant-loop-k
invariant-loop-k l = Spanning l.parts.along.now l.parts.back.now l.parts.starts.now l.pairs l.out l.k
