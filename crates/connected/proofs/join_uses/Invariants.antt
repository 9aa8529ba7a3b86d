-- After k turns the first k uses link their ends.
use mathlib.Core.Path.{◌≡◌}
use mathlib.Core.List.{map}
use Rattle.edge.specs.Uses.{back_of, front_of}
use Rattle.groups.proofs.All.{Joins}
use Rattle.connected.proofs.join_uses.Given as goal

abbrev pub invariant-loop-u : goal.invariant-loop-u
invariant-loop-u l = Joins l.initial.groups.count (map (front_of l.ends.fronts.now l.ends.backs.now) l.uses) (map (back_of l.ends.fronts.now l.ends.backs.now) l.uses) l.initial.groups.parents l.initial.groups.sizes l.groups.parents l.groups.sizes l.u-index × (l.groups.count ≡ l.initial.groups.count)
