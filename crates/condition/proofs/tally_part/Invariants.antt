-- The tally at each turn, after the rest of the part, is the tally after the whole part.
use Rattle.std.proofs.Common.{◌*◌}
use Rattle.condition.proofs.Loops.{Inserting}
use Rattle.condition.proofs.tally_part.Given as goal

abbrev pub invariant-loop-four : goal.invariant-loop-four
invariant-loop-four l = Inserting l.part l.initial.t l.t (4 * l.four-index)

abbrev pub invariant-loop-u : goal.invariant-loop-u
invariant-loop-u l = Inserting l.rest l.initial.t l.t l.u-index
