-- The loop has passed k faces; the next one's first wire is `first`, and its uses begin at `at`.
use Prim.Native.Nat.{◌+◌, ◌≤◌}
use mathlib.Core.Path.{◌≡◌}
use lib.ListN.{take}
use Rattle.face.proofs.Laws.{Ruled}
use Rattle.lists.proofs.Split.{Walk}
use Rattle.lists.specs.Lists.{split, sum}
use Rattle.face.proofs.check_faces.Given as goal

abbrev pub invariant-loop-count : goal.invariant-loop-count
invariant-loop-count l = Walk l.counts l.count-index l.first × (l.at ≡ sum (take l.first l.lengths)) × Ruled l.wires.ends.fronts.now l.wires.ends.backs.now (split l.counts (split l.lengths l.wires.uses.now)) l.count-index l.first × (l.marks.stamp ≤ l.first + l.count-index)
