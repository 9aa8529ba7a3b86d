-- After i turns the first i uses of the wire turned are stored.
use Prim.Native.Nat.{◌≤◌}
use mathlib.Core.List.{map, reverse}
use mathlib.Core.Path.{◌≡◌}
use lib.ListN.{length, take}
use lib.Seq.{sets}
use Rattle.edge.specs.Uses.{turned}
use Rattle.listing.proofs.put_turned.Given as goal

abbrev pub invariant-loop-i : goal.invariant-loop-i
invariant-loop-i l = (l.i ≤ length l.wire) × (length l.out ≡ length l.initial.out) × (l.out ≡ sets l.initial.out l.at (take l.i (map turned (reverse l.wire))))
