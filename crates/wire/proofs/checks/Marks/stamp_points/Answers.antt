-- No mark is above the stamp.
use native.Mathlib.Omega.{arith}
use Rattle.lists.proofs.Marks.{below_stamped}
use Rattle.wire.proofs.checks.Marks.stamp_points.Goals as goal

pub invariant_of-self-clause-below : goal.invariant_of-self-clause-below
invariant_of-self-clause-below c = rw c.stamp_points.ensures.marks_after (below_stamped _ _ _ _ c.args.self.now.below (omega arith))
