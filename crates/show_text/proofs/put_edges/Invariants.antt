-- After k turns the lines of the first k edges are written.
use Prim.Native.Nat.{◌*◌, ◌+◌, ◌≤◌}
use Rattle.show_text.proofs.Laws.{Listing}
use Rattle.show_text.specs.StoreText.{edge_held}
use Rattle.show_text.proofs.put_edges.Given as goal

abbrev pub invariant-loop-k : goal.invariant-loop-k
invariant-loop-k l = (l.end ≤ l.at + 96 * l.k) × Listing (edge_held l.t l.spans) l.initial.out l.at l.out l.end l.k
