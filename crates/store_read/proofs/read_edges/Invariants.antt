use Prim.Native.Nat.{ℕ, ◌+◌, ◌*◌}
use mathlib.Core.Path.{◌≡◌}
use lib.Seq.{sets}
use Rattle.lists.specs.Lists.{tabulate}
use Rattle.pattern_file.specs.File.{edge_at}
use Rattle.store.specs.Store.{held}
use Rattle.store.specs.Columns.{with_edges}
use Rattle.store_read.proofs.read_edges.Given as goal

abbrev pub invariant-loop-k : goal.invariant-loop-k
invariant-loop-k l = held l.t l.spans ≡ with_edges (held l.initial.t l.initial.spans) (sets (held l.initial.t l.initial.spans).edges 0 (tabulate l.k (λ (j : ℕ). edge_at l.s (l.at + 20 * j))))
