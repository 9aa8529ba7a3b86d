-- The loop has passed b counts.
use Rattle.errors.proofs.Laws.{Passed}
use Rattle.pattern.specs.Checks.{limit_faults}
use Rattle.pattern.proofs.check_counts.Given as goal

abbrev pub invariant-loop-b : goal.invariant-loop-b
invariant-loop-b l = Passed limit_faults 0 l.count-items 0 l.b
