-- After b turns the first b places are written, and `at` is where body b begins.
use Rattle.pattern_file.proofs.Starts.{Starting}
use Rattle.pattern_file.proofs.starts_of.Given as goal

abbrev pub invariant-loop-b : goal.invariant-loop-b
invariant-loop-b l = Starting l.counts l.lay l.out l.at l.b
