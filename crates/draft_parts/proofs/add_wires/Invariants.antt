use Rattle.draft_parts.proofs.Filling.{Filling}
use Rattle.draft_parts.proofs.add_wires.Given as goal

abbrev pub invariant-loop-x : goal.invariant-loop-x
invariant-loop-x l = Filling l.v l.initial.t l.used l.wired l.t l.u l.w l.size l.x-index
