-- The uses of the wire from place u-index on.
use mathlib.Core.List.{map}
use mathlib.Core.Path.{◌≡◌}
use lib.ListN.{drop}
use Rattle.edge.specs.Uses.{front_of}
use Rattle.lists.specs.Lists.{has}
use Rattle.wire.specs.Wires.{points}
use Rattle.cut_edge_faults.proofs.wire_meets.Given as goal

abbrev pub invariant-loop-u : goal.invariant-loop-u
invariant-loop-u l = has l.p (points l.wire.ends.fronts.now l.wire.ends.backs.now l.wire.uses.now) ≡ has l.p (map (front_of l.wire.ends.fronts.now l.wire.ends.backs.now) (drop l.u-index l.wire.uses.now))
