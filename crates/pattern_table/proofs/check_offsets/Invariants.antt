-- The loop has passed b offsets.
use Rattle.errors.proofs.Laws.{Passed}
use Rattle.lists.specs.Lists.{tabulate}
use Rattle.pattern_file.proofs.Places.{offset_fault}
use Rattle.pattern_file.specs.File.{file_counts, offset_at}
use Rattle.pattern_table.proofs.check_offsets.Given as goal

abbrev pub invariant-loop-b : goal.invariant-loop-b
invariant-loop-b l = Passed (offset_fault (file_counts l.s)) 0 (tabulate 7 (offset_at l.s)) 0 l.b
