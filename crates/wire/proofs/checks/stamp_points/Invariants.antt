-- The loop stamps point after point.
use Rattle.lists.proofs.Marks.{Stamping}
use Rattle.wire.specs.Wires.{points}
use Rattle.wire.specs.OfWire.{of_wire}
use Rattle.wire.proofs.checks.stamp_points.Given as goal

abbrev pub invariant-loop-u : goal.invariant-loop-u
invariant-loop-u l = Stamping l.stamp (of_wire points l.wire) l.initial.marks l.marks l.again l.u-index
