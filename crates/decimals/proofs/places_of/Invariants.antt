-- The loop passes the places that do not read back.
use Rattle.decimals.proofs.Places.{Passed}
use Rattle.decimals.proofs.places_of.Given as goal

abbrev pub invariant-loop-k : goal.invariant-loop-k
invariant-loop-k l = Passed l.bits l.k
