-- The loop is at wire k, whose uses begin at `from` and are written at `at`.
use Rattle.cut_edge_wires.proofs.Put.{Putting}
use Rattle.cut_edge_wires.specs.Halves.{cut_flagged}
use Rattle.cut_edge_wires.proofs.put_cut_wires.Given as goal

abbrev pub invariant-loop-k : goal.invariant-loop-k
invariant-loop-k l = Putting (cut_flagged l.flags l.e.0 l.a) l.lens l.wires.uses.now l.initial.out l.initial.sizes l.out l.sizes l.from l.at l.k
