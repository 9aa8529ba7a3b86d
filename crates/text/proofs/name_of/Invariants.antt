-- The bytes passed are those of n.
use Prim.Native.Nat.{◌≤◌}
use lib.ListN.{length}
use Rattle.text.proofs.Numbers.{Named}
use Rattle.text.proofs.name_of.Given as goal

abbrev pub invariant-loop-b : goal.invariant-loop-b
invariant-loop-b l = (Named l.word l.n l.b-index) × (length l.word ≤ 7)
