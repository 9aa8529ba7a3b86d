-- After k turns the wires of the first k faces are linked.
use mathlib.Core.Path.{◌≡◌}
use Rattle.groups.proofs.Parts.{PartJoins}
use Rattle.connected.specs.Wired.{neighbours}
use Rattle.connected.proofs.join_faces.Given as goal

abbrev pub invariant-loop-m : goal.invariant-loop-m
invariant-loop-m l = PartJoins neighbours l.initial.groups.count l.counts l.firsts l.initial.groups.parents l.initial.groups.sizes l.groups.parents l.groups.sizes l.m-index l.at × (l.groups.count ≡ l.initial.groups.count)
