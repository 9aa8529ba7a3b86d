-- The wires from number k on.
use Rattle.cut_edge_faults.proofs.Flags.{Counting}
use Rattle.cut_edge_faults.proofs.count_cuts.Given as goal

abbrev pub invariant-loop-k : goal.invariant-loop-k
invariant-loop-k l = Counting l.flags l.e.0 l.lens l.uses l.count l.at l.k
