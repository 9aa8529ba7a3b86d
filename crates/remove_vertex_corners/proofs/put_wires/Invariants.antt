use Rattle.remove_vertex_corners.proofs.Wires.{Putting}
use Rattle.remove_vertex_corners.specs.Corners.{removed_wire}
use Rattle.remove_vertex_corners.proofs.put_wires.Given as goal

abbrev pub invariant-loop-w : goal.invariant-loop-w
invariant-loop-w l = Putting (removed_wire l.wires.ends.fronts.now l.wires.ends.backs.now l.v.0 l.e l.a) l.lens l.wires.uses.now l.initial.out l.initial.sizes l.out l.sizes l.from l.at l.w
