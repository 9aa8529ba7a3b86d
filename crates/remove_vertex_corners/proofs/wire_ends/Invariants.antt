use Rattle.remove_vertex_corners.proofs.Flagging.{Flagging}
use Rattle.remove_vertex_corners.specs.Endings.{ends_at}
use Rattle.remove_vertex_corners.proofs.wire_ends.Given as goal

abbrev pub invariant-loop-w : goal.invariant-loop-w
invariant-loop-w l = Flagging (ends_at l.wires.ends.fronts.now l.wires.ends.backs.now l.v.0) l.lens l.wires.uses.now l.out l.w l.at
