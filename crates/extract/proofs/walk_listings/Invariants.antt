-- The listings before j are one pass, and the next part is a pass after it.
use Rattle.extract.proofs.Laws.{Passing}
use Rattle.extract.proofs.walk_listings.Given as goal

abbrev pub invariant-loop-l : goal.invariant-loop-l
invariant-loop-l l = Passing l.parts.along.now l.parts.back.now l.parts.starts.now l.listings l.ends.fronts.now l.ends.backs.now l.initial.kept l.initial.out l.initial.lens l.kept l.out l.lens l.w l.l-index
