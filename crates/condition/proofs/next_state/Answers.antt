use Prim.Native.Nat.{◌%◌}
use native.Mathlib.Omega.{arith}
use borrow.Author.Tests.{eq-eqb, ne_eqb}
use Rattle.condition.proofs.next_state.Goals as goal

pub returns-then-s-eq0 : goal.returns-then-s-eq0
returns-then-s-eq0 c = (rw (eq-eqb (c.args.s % 2) 0 c.if-s-eq0.true), omega arith)

pub returns-else-s-eq0 : goal.returns-else-s-eq0
returns-else-s-eq0 c = (rw (ne_eqb (c.args.s % 2) 0 c.if-s-eq0.false), omega arith)
