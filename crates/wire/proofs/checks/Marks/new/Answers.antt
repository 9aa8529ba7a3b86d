use Rattle.lists.proofs.Marks.{below_zeros}
use mathlib.Core.Path.{refl}
use Rattle.wire.proofs.checks.Marks.new.Goals as goal

pub invariant_of-result : goal.invariant_of-result
invariant_of-result c = record { long = refl; below = below_zeros 2048 }
