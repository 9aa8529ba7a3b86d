-- Keeping the part is keeping its rest after the uses passed.
use Rattle.openings.proofs.Keeping.{Keeping}
use Rattle.openings.proofs.keep_part.Given as goal

abbrev pub invariant-loop-u : goal.invariant-loop-u
invariant-loop-u l = Keeping l.ends.fronts.now l.ends.backs.now l.odd l.part l.initial.kept l.kept l.u-index
