-- The digits but the last by the call of itself, then the last. The measure is the number of digits.
use Rattle.decimals.proofs.Last.{last_next, last_none}
use Rattle.decimals.proofs.+put_last.Goals as goal

pub returns-then-d-eq0 : goal.returns-then-d-eq0
returns-then-d-eq0 t c = last_none _ _ _ _ _ c.if-d-eq0.true

pub returns : goal.returns
returns t c = last_next _ _ _ _ _ _ _ c.if-d-eq0.false c.put_last.ensures c.digit_byte.ensures
