-- After k turns the first k wires are written.
use Rattle.listing.proofs.Loops.{Turning}
use Rattle.listing.proofs.put_turned_uses.Given as goal

abbrev pub invariant-loop-n : goal.invariant-loop-n
invariant-loop-n l = Turning l.wires l.uses l.out l.n-index l.at
