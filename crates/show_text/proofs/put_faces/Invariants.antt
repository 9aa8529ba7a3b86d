-- After k turns the lines of the first k faces are written.
use Rattle.show_text.proofs.Faces.{Facing}
use Rattle.show_text.proofs.put_faces.Given as goal

abbrev pub invariant-loop-k : goal.invariant-loop-k
invariant-loop-k l = Facing l.t l.n l.initial.out l.at l.out l.end l.wire l.first l.k
