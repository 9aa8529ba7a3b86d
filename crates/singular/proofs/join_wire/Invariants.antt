-- After i turns the first i uses are joined with the next.
use mathlib.Core.Path.{◌≡◌}
use Rattle.singular.proofs.Ends.{Cornering}
use Rattle.singular.proofs.join_wire.Given as goal

abbrev pub invariant-loop-i : goal.invariant-loop-i
invariant-loop-i l = Cornering l.edges l.wire l.initial.groups.parents l.initial.groups.sizes l.groups.parents l.groups.sizes l.i × (l.groups.count ≡ l.initial.groups.count)
