-- After each turn the pairs so far are joined.
use Rattle.std.proofs.Common.{length}
use Rattle.groups.proofs.All.{Joins}
use Rattle.groups.proofs.join_all.Given as goal

abbrev pub invariant-loop-i : goal.invariant-loop-i
invariant-loop-i l = Joins l.n l.a l.b l.initial.parents l.initial.sizes l.parents l.sizes (length l.yielded)
