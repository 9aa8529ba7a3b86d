-- What the listings before i keep, and one more part.
use Rattle.extract.proofs.Laws.{Keeping}
use Rattle.extract.proofs.keep_listings.Given as goal

abbrev pub invariant-loop-l : goal.invariant-loop-l
invariant-loop-l l = Keeping l.parts.along.now l.parts.back.now l.parts.starts.now l.listings l.ends.fronts.now l.ends.backs.now l.odd l.initial.kept l.kept l.l-index
