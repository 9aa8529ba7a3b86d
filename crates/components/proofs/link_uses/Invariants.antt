-- After k turns the uses of the first k pairs are joined.
use mathlib.Core.Path.{◌≡◌}
use Rattle.components.proofs.Linking.{Linking}
use Rattle.components.proofs.link_uses.Given as goal

abbrev pub invariant-loop-k : goal.invariant-loop-k
invariant-loop-k l = Linking l.edges l.spans l.uses l.initial.groups.parents l.initial.groups.sizes l.groups.parents l.groups.sizes l.k l.at × (l.groups.count ≡ l.initial.groups.count)
