use Rattle.remove_vertex_corners.proofs.Endings.{Faces}
use Rattle.remove_vertex_corners.proofs.face_endings.Given as goal

abbrev pub invariant-loop-f : goal.invariant-loop-f
invariant-loop-f l = Faces l.flags l.counts l.out l.f l.at
