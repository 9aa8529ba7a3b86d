-- After k turns the faces of k listings have their flags.
use Rattle.shell_wires.proofs.Laws.{Flagging}
use Rattle.shell_wires.proofs.face_flags.Given as goal

abbrev pub invariant-loop-l : goal.invariant-loop-l
invariant-loop-l l = Flagging l.listings l.out l.l-index
