-- The way up from `at` ends where the one from i does; the measure is the number of steps that are left.
use mathlib.Core.Path.{◌≡◌}
use lib.ListN.{length}
use Rattle.groups.proofs.Climbing.{steps}
use Rattle.groups.specs.Forest.{Climbs, root_of}
use Rattle.groups.proofs.find.Given as goal

abbrev pub invariant-loop-at : goal.invariant-loop-at
invariant-loop-at l = Climbs l.parents l.at × (root_of l.parents l.at ≡ root_of l.parents l.i)

abbrev pub decreases-loop-at : goal.decreases-loop-at
decreases-loop-at l = steps (length l.parents) l.parents l.at
