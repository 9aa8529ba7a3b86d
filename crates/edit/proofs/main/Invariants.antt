-- The words are read one after the other; the last is in the list.
use Rattle.std.proofs.Common.{◌≤◌, length}
use Rattle.edit.proofs.main.Given as goal

abbrev pub invariant-loop-k : goal.invariant-loop-k
invariant-loop-k l = l.n ≤ length l.name
