-- The list keeps its length.
use Rattle.std.proofs.Common.{◌≡◌, length}
use Rattle.import.proofs.take_in.Given as goal

abbrev pub invariant-loop : goal.invariant-loop
invariant-loop l = length l.piece ≡ length l.initial.piece
