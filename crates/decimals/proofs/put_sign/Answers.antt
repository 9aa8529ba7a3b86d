-- The minus, or nothing.
use Rattle.std.proofs.Common.{refl, arith}
use Rattle.decimals.proofs.put_sign.Goals as goal

pub returns-then-negative : goal.returns-then-negative
returns-then-negative c = rw c.if-negative.true (refl, refl)

pub returns : goal.returns
returns c = rw c.if-negative.false (refl, omega arith)
