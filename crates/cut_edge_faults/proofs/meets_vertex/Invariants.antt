-- The wires from number k on.
use Rattle.cut_edge_faults.proofs.Flags.{Seeking}
use Rattle.edge.specs.Uses.{front_of}
use Rattle.cut_edge_faults.proofs.meets_vertex.Given as goal

abbrev pub invariant-loop-k : goal.invariant-loop-k
invariant-loop-k l = Seeking l.flags (front_of l.wires.ends.fronts.now l.wires.ends.backs.now) l.v.0 l.lens l.wires.uses.now l.at l.k
