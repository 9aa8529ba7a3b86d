-- After k turns the uses of the first k wires are joined with the next.
use mathlib.Core.Path.{◌≡◌}
use Prim.Native.Nat.{◌*◌}
use Rattle.groups.proofs.Parts.{PartJoins}
use Rattle.shell.specs.Singular.{corners}
use Rattle.singular.proofs.join_wires.Given as goal

abbrev pub invariant-loop-n : goal.invariant-loop-n
invariant-loop-n l = PartJoins corners (2 * l.edges) l.lens l.uses l.initial.groups.parents l.initial.groups.sizes l.groups.parents l.groups.sizes l.n-index l.at × (l.groups.count ≡ l.initial.groups.count)
