-- After b turns the first b counts are written.
use lib.ListN.{replicate}
use Rattle.lists.proofs.Laws.{Filling}
use Rattle.pattern_file.specs.File.{count_at}
use Rattle.pattern_table.proofs.counts_of.Given as goal

abbrev pub invariant-loop-b : goal.invariant-loop-b
invariant-loop-b l = Filling (count_at l.s) (replicate 7 0) l.count-items l.b
