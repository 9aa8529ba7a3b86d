-- Whether a digit of the byte is odd.
use Rattle.condition.proofs.Digits.{none_odd, some_odd}
use Rattle.condition.specs.Tallies.{digit}
use Rattle.condition.proofs.byte_condition.Goals as goal

pub returns-then-low-high-ne0 : goal.returns-then-low-high-ne0
returns-then-low-high-ne0 c = some_odd (digit _) (rw (← c.state_in.ensures.0, ← c.state_in-2.ensures.0, ← c.state_in-3.ensures.0, ← c.state_in-4.ensures.0) c.if-low-high-ne0.true)

pub returns : goal.returns
returns c = none_odd (digit _) (rw (← c.state_in.ensures.0, ← c.state_in-2.ensures.0, ← c.state_in-3.ensures.0, ← c.state_in-4.ensures.0) c.if-low-high-ne0.false)
