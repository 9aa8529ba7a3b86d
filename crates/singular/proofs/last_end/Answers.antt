-- By the direction of the use.
use native.Mathlib.Omega.{arith}
use borrow.Author.Tests.{le-leb, lt-leb}
use Rattle.singular.proofs.last_end.Goals as goal

pub returns-then-u-ge32768 : goal.returns-then-u-ge32768
returns-then-u-ge32768 c = rw (le-leb 32768 _ c.if-u-ge32768.true)

pub returns : goal.returns
returns c = rw (lt-leb 32768 c.args.u (omega arith))
