-- After k turns the lines of the first k points are written.
use Prim.Native.Nat.{◌*◌, ◌+◌, ◌≤◌}
use Rattle.show_text.proofs.Laws.{Listing}
use Rattle.show_text.specs.StoreText.{point_held}
use Rattle.show_text.proofs.put_points.Given as goal

abbrev pub invariant-loop-k : goal.invariant-loop-k
invariant-loop-k l = (l.end ≤ l.at + 40 * l.k) × Listing (point_held l.t) l.initial.out l.at l.out l.end l.k
