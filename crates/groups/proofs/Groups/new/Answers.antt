use native.Mathlib.Omega.{arith}
use mathlib.Core.Path.{refl}
use Rattle.groups.proofs.Laws.{forest_none}
use Rattle.groups.proofs.Groups.new.Goals as goal

pub invariant_of-result : goal.invariant_of-result
invariant_of-result c = record { forest = forest_none _ _ }
