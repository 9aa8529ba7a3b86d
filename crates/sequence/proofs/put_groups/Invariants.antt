-- After i turns the groups that begin before member i are written.
use Rattle.sequence.proofs.Loops.{Placing}
use Rattle.sequence.proofs.put_groups.Given as goal

abbrev pub invariant-loop-i : goal.invariant-loop-i
invariant-loop-i l = Placing l.keys l.names l.next l.head l.initial.out l.initial.lens l.out l.lens l.at l.count l.i
