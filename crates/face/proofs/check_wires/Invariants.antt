-- The loop has passed k wires; the next one begins at `at`.
use Prim.Native.Nat.{◌+◌, ◌≤◌}
use mathlib.Core.List.{[]}
use Rattle.errors.proofs.Laws.{Passed}
use Rattle.face.specs.Faces.{outline_faults}
use Rattle.lists.proofs.Split.{Walk}
use Rattle.lists.specs.Lists.{split}
use Rattle.face.proofs.check_wires.Given as goal

abbrev pub invariant-loop-k : goal.invariant-loop-k
invariant-loop-k l = Walk l.lengths l.k l.at × Passed (outline_faults l.wires.ends.fronts.now l.wires.ends.backs.now) [] (split l.lengths l.wires.uses.now) l.first l.k × (l.marks.stamp ≤ l.initial.marks.stamp + l.k)
