-- By whether the digit is below 10.
use Rattle.std.proofs.Common.{le-ltb, lt-ltb}
use Rattle.decimals.proofs.digit_byte.Goals as goal

pub returns-then-n-lt10 : goal.returns-then-n-lt10
returns-then-n-lt10 c = rw (lt-ltb _ 10 c.if-n-lt10.true)

pub returns-else-n-lt10 : goal.returns-else-n-lt10
returns-else-n-lt10 c = rw (le-ltb _ 10 c.if-n-lt10.false)
