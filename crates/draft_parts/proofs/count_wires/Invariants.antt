-- The loop counts value after value.
use Rattle.draft_parts.proofs.Wires.{Counting}
use Rattle.draft_parts.proofs.count_wires.Given as goal

abbrev pub invariant-loop-x : goal.invariant-loop-x
invariant-loop-x l = Counting l.v l.x-index l.uses l.wires
