-- The uses passed so far are one pass, and the next use is a pass after it.
use Rattle.openings.proofs.Passes.{Passing}
use Rattle.openings.proofs.walk_part.Given as goal

abbrev pub invariant-loop-u : goal.invariant-loop-u
invariant-loop-u l = Passing l.ends.fronts.now l.ends.backs.now l.part l.initial.kept l.initial.out l.initial.lens l.initial.w l.kept l.out l.lens l.w l.u-index
