-- The search among all uses is the search among those from place i on.
use Prim.Native.Nat.{◌-◌, ◌≤◌}
use mathlib.Core.Path.{◌≡◌}
use lib.ListN.{drop, length}
use Rattle.wire.specs.Wires.{find_from}
use Rattle.wire.proofs.find_use.Given as goal

abbrev pub invariant-loop-i : goal.invariant-loop-i
invariant-loop-i l = (l.i ≤ length l.uses) × (find_from 0 l.e.0 l.uses ≡ find_from l.i l.e.0 (drop l.i l.uses))

abbrev pub decreases-loop-i : goal.decreases-loop-i
decreases-loop-i l = length l.uses - l.i
