use lib.ListN.{take}
use mathlib.Core.Path.{◌≡◌}
use mathlib.Core.List.{List}
use lib.Ieee.{Float}
use lib.Seq.{sets}
use Rattle.store.specs.Store.{held}
use Rattle.store.specs.Columns.{with_counts}
use Rattle.store_read.proofs.read_counts.Given as goal

abbrev pub invariant-loop-b : goal.invariant-loop-b
invariant-loop-b l = (spans : List Float) → held l.t spans ≡ with_counts (held l.initial.t spans) (sets (held l.initial.t spans).counts 0 (take l.b l.count-items))
