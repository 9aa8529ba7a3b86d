-- The next place, or the first.
use native.Mathlib.Omega.{arith}
use Rattle.singular.proofs.Ends.{next_inner, next_last}
use Rattle.singular.proofs.next_use.Goals as goal

pub returns-then-i-wire : goal.returns-then-i-wire
returns-then-i-wire c = let args = c.args in next_inner args.wire.now args.i (omega arith)

pub returns : goal.returns
returns c = let args = c.args in next_last args.wire.now args.i (omega arith) (omega arith)
