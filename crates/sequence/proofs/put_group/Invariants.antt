-- After each turn the members before j are written.
use Prim.Native.Nat.{◌+◌, ◌-◌}
use lib.ListN.{length}
use Rattle.sequence.proofs.Firsts.{group_at}
use Rattle.sequence.proofs.Loops.{Following}
use Rattle.sequence.proofs.put_group.Given as goal

abbrev pub invariant-loop-j : goal.invariant-loop-j
invariant-loop-j l = Following l.keys l.names l.next l.i l.initial.out l.at l.out l.to l.j

abbrev pub decreases-loop-j : goal.decreases-loop-j
decreases-loop-j l = l.at + length (group_at l.keys l.i) - l.to
