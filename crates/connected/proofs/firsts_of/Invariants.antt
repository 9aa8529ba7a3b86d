-- After k turns the first points of the first k wires are stored.
use mathlib.Core.List.{[]}
use Rattle.lists.proofs.Split.{Walk}
use Rattle.lists.specs.Lists.{split}
use Rattle.connected.proofs.Loops.{Writing, first_point}
use Rattle.connected.proofs.firsts_of.Given as goal

abbrev pub invariant-loop-k : goal.invariant-loop-k
invariant-loop-k l = Walk l.lens l.k l.at × Writing (first_point l.ends.fronts.now l.ends.backs.now) [] 2048 (split l.lens l.uses) l.out l.k
