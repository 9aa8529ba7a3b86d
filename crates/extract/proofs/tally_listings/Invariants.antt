-- The tally of the listings before k, and one more part.
use Rattle.extract.proofs.Laws.{Tallying}
use Rattle.extract.proofs.tally_listings.Given as goal

abbrev pub invariant-loop-l : goal.invariant-loop-l
invariant-loop-l l = Tallying l.parts.along.now l.parts.back.now l.parts.starts.now l.listings l.t l.l-index
