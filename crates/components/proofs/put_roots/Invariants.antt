-- After k turns the roots of the first k members are written.
use Rattle.components.proofs.Loops.{Putting}
use Rattle.components.specs.Pairs.{roots_of}
use Rattle.components.proofs.put_roots.Given as goal

abbrev pub invariant-loop-k : goal.invariant-loop-k
invariant-loop-k l = Putting (roots_of l.groups.parents l.first l.n) l.initial.out 0 l.out l.k
