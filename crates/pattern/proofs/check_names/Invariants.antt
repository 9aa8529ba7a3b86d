-- The loop has passed k numbers.
use Rattle.errors.proofs.Laws.{Passed}
use Rattle.pattern.specs.Checks.{name_faults}
use Rattle.pattern.proofs.check_names.Given as goal

abbrev pub invariant-loop-k : goal.invariant-loop-k
invariant-loop-k l = Passed (name_faults l.body l.names) 0 l.numbers 0 l.k
