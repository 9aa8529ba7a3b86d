-- After u-index turns as many items are written.
use Rattle.lines.proofs.Loops.{Putting}
use Rattle.lines.specs.Parts.{item}
use Rattle.lines.proofs.put_items.Given as goal

abbrev pub invariant-loop-u : goal.invariant-loop-u
invariant-loop-u l = Putting item l.initial.out l.at l.us l.out l.end l.u-index
