use native.Mathlib.Omega.{arith}
use Rattle.groups.proofs.Laws.{grouped_begin}
use Rattle.groups.proofs.Groups.start.Goals as goal

pub invariant_of-self : goal.invariant_of-self
invariant_of-self c = record { forest = (grouped_begin _ _ _ (omega arith) (c.start.ensures.parents_after, c.start.ensures.sizes_after)).forest }
