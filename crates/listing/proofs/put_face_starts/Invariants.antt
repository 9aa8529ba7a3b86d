-- After k turns the first k starts are stored.
use Rattle.listing.proofs.Loops.{Starting}
use Rattle.listing.proofs.put_face_starts.Given as goal

abbrev pub invariant-loop-k : goal.invariant-loop-k
invariant-loop-k l = Starting l.wires l.counts l.out l.k l.at l.start
