-- After i turns the first i members are roots.
use Prim.Native.Nat.{ℕ}
use Rattle.lists.proofs.Laws.{Filling}
use Rattle.groups.proofs.start.Given as goal

abbrev pub invariant-loop-i : goal.invariant-loop-i
invariant-loop-i l = Filling (λ (k : ℕ). k) l.initial.parent-items l.parent-items l.i
