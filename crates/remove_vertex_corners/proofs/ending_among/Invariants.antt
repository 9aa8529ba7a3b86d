use Prim.Native.Nat.{◌-◌}
use Rattle.remove_vertex_corners.proofs.Endings.{Among}
use Rattle.remove_vertex_corners.proofs.ending_among.Given as goal

abbrev pub invariant-loop-w : goal.invariant-loop-w
invariant-loop-w l = Among l.flags l.start l.n l.e (l.w - l.start)
