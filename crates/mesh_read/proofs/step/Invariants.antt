use Rattle.std.proofs.Common.{◌-◌, length}
use Rattle.store.specs.Store.{held}
use Rattle.mesh_read.proofs.Pieces.{Stepping}
use Rattle.mesh_read.proofs.step.Given as goal

abbrev pub invariant-loop-i : goal.invariant-loop-i
invariant-loop-i l = Stepping l.piece l.initial.r (held l.initial.t l.initial.spans) l.initial.index l.i l.r (held l.t l.spans) l.index

abbrev pub decreases-loop-i : goal.decreases-loop-i
decreases-loop-i l = length l.piece - l.i
