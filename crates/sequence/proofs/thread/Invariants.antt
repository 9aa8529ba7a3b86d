-- The members from j on are threaded.
use Rattle.sequence.proofs.Loops.{Threading}
use Rattle.sequence.proofs.thread.Given as goal

abbrev pub invariant-loop-j : goal.invariant-loop-j
invariant-loop-j l = Threading l.keys l.initial.next l.initial.head l.next l.head l.j
