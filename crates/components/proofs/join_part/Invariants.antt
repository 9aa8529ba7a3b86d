-- After i turns the edges of the first i uses are joined with the member.
use mathlib.Core.Path.{◌≡◌}
use mathlib.Core.List.{map}
use lib.ListN.{length, replicate}
use Rattle.edge.specs.Uses.{edge_number}
use Rattle.groups.proofs.All.{Joins}
use Rattle.components.proofs.join_part.Given as goal

abbrev pub invariant-loop-u : goal.invariant-loop-u
invariant-loop-u l = Joins l.initial.groups.count (map edge_number l.part) (replicate (length l.part) l.member) l.initial.groups.parents l.initial.groups.sizes l.groups.parents l.groups.sizes l.u-index × (l.groups.count ≡ l.initial.groups.count)
