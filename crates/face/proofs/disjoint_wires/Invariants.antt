-- The loop has met no point again in the first k wires; the next one begins at `at`.
use mathlib.Core.Path.{◌≡◌}
use Rattle.face.proofs.Laws.{Apart}
use Rattle.lists.proofs.Split.{Walk}
use Rattle.lists.specs.Lists.{split}
use Rattle.face.proofs.disjoint_wires.Given as goal

abbrev pub invariant-loop-k : goal.invariant-loop-k
invariant-loop-k l = Walk l.lengths l.k l.at × Apart l.wires.ends.fronts.now l.wires.ends.backs.now (split l.lengths l.wires.uses.now) l.first l.marks.stamp l.marks.marks l.k × (l.marks.stamp ≡ l.initial.marks.stamp)
