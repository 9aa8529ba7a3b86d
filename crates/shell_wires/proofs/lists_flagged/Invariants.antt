-- After k turns, k listings have no face with a flag.
use Rattle.shell_wires.proofs.Laws.{Looking}
use Rattle.shell_wires.proofs.lists_flagged.Given as goal

abbrev pub invariant-loop-l : goal.invariant-loop-l
invariant-loop-l l = Looking l.flags l.listings l.l-index
