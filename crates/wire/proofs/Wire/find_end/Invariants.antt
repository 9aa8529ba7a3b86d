-- The search among all uses is the search among those from place i on.
use Prim.Native.Nat.{◌-◌, ◌≤◌}
use mathlib.Core.Path.{◌≡◌}
use lib.ListN.{drop, length}
use Rattle.wire.specs.Wires.{end_from}
use Rattle.wire.proofs.Wire.find_end.Given as goal

abbrev pub invariant-loop-k : goal.invariant-loop-k
invariant-loop-k l = (l.k ≤ length l.self.uses.now) × (end_from l.self.ends.fronts.now l.self.ends.backs.now 0 l.p l.self.uses.now ≡ end_from l.self.ends.fronts.now l.self.ends.backs.now l.k l.p (drop l.k l.self.uses.now))

abbrev pub decreases-loop-k : goal.decreases-loop-k
decreases-loop-k l = length l.self.uses.now - l.k
