-- The test is that of the definition.
use Prim.Native.Nat.{◌<◌, ◌≤◌}
use native.Mathlib.Omega.{arith}
use borrow.Author.Tests.{le-leb, lt-leb}
use Rattle.lines.proofs.sign_of.Goals as goal

pub returns-then-u-ge32768 : goal.returns-then-u-ge32768
returns-then-u-ge32768 c = let h : 32768 ≤ c.args.u = omega arith in rw (le-leb 32768 _ h)

pub returns : goal.returns
returns c = let h : c.args.u < 32768 = omega arith in rw (lt-leb 32768 _ h)
