-- The points of the first i uses have the root of the first.
use Prim.Native.Nat.{◌+◌}
use Rattle.edge.specs.Uses.{front_of}
use Rattle.connected.proofs.Loops.{Rooting}
use Rattle.connected.proofs.one_root.Given as goal

abbrev pub invariant-loop-u : goal.invariant-loop-u
invariant-loop-u l = Rooting (front_of l.ends.fronts.now l.ends.backs.now) l.groups.parents l.uses l.root (l.u-index + 1)
