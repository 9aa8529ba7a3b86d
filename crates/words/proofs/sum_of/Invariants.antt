-- After i turns the total is the sum of the first i numbers, each below 65,536.
use Prim.Native.Nat.{◌*◌, ◌≤◌}
use mathlib.Core.Path.{◌≡◌}
use lib.ListN.{take}
use Rattle.lists.specs.Lists.{sum}
use Rattle.words.proofs.sum_of.Given as goal

abbrev pub invariant-loop-x : goal.invariant-loop-x
invariant-loop-x l = (l.total ≡ sum (take l.x-index l.ns)) × (l.total ≤ 65536 * l.x-index)
