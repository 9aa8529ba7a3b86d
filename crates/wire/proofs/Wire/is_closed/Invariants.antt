-- The wire is closed if the run from `at` over the uses that are left ends at the first point.
use mathlib.Core.Path.{◌≡◌}
use lib.ListN.{drop}
use Rattle.wire.specs.Wires.{closed, runs}
use Rattle.wire.proofs.Wire.is_closed.Given as goal

abbrev pub invariant-loop-u : goal.invariant-loop-u
invariant-loop-u l = closed l.self.ends.fronts.now l.self.ends.backs.now l.self.uses.now ≡ runs l.self.ends.fronts.now l.self.ends.backs.now l.at (drop l.u-index l.rest) l.first
