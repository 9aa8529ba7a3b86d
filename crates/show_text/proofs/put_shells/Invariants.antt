-- After k turns the lines of the first k shells are written.
use Rattle.show_text.proofs.Shells.{Shelling}
use Rattle.show_text.proofs.put_shells.Given as goal

abbrev pub invariant-loop-k : goal.invariant-loop-k
invariant-loop-k l = Shelling l.t l.n l.initial.out l.at l.out l.end l.first l.k
