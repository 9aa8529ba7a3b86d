use Rattle.remove_vertex_corners.proofs.Endings.{FacesMade, Listed}
use Rattle.remove_vertex_corners.proofs.ending_wires.Given as goal

abbrev pub invariant-loop-l : goal.invariant-loop-l
invariant-loop-l l = FacesMade l.flags l.counts l.ends × Listed l.flags l.counts l.listings l.e l.l-index
