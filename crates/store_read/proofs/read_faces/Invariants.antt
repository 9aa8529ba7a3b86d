use Prim.Native.Nat.{ℕ, ◌+◌, ◌*◌}
use mathlib.Core.Path.{◌≡◌}
use mathlib.Core.List.{List}
use lib.Ieee.{Float}
use lib.Seq.{sets}
use Rattle.lists.specs.Lists.{tabulate}
use Rattle.pattern_file.specs.File.{face_at}
use Rattle.store.specs.Store.{held}
use Rattle.store.specs.Columns.{with_faces}
use Rattle.store_read.proofs.read_faces.Given as goal

abbrev pub invariant-loop-k : goal.invariant-loop-k
invariant-loop-k l = (spans : List Float) → held l.t spans ≡ with_faces (held l.initial.t spans) (sets (held l.initial.t spans).faces 0 (tabulate l.k (λ (j : ℕ). face_at l.s (l.at + 4 * j))))
