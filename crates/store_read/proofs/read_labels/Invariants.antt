use Prim.Native.Nat.{ℕ, ◌+◌, ◌*◌}
use mathlib.Core.Path.{◌≡◌}
use mathlib.Core.List.{List}
use lib.Ieee.{Float}
use lib.Seq.{sets}
use Rattle.lists.specs.Lists.{tabulate}
use Rattle.words.specs.Words.{le32}
use Rattle.store.specs.Store.{held}
use Rattle.store.specs.Columns.{with_points}
use Rattle.store_read.proofs.read_labels.Given as goal

abbrev pub invariant-loop-k : goal.invariant-loop-k
invariant-loop-k l = (spans : List Float) → held l.t spans ≡ with_points (held l.initial.t spans) (sets (held l.initial.t spans).points 0 (tabulate l.k (λ (j : ℕ). le32 l.s (l.at + 4 * j))))
