-- After f turns the wires of f faces have their flags.
use Rattle.shell_wires.proofs.Laws.{Spreading}
use Rattle.shell_wires.proofs.wire_flags.Given as goal

abbrev pub invariant-loop-f : goal.invariant-loop-f
invariant-loop-f l = Spreading l.flags l.counts l.out l.f l.at
