-- The digits passed are those of m.
use Rattle.text.proofs.Numbers.{Digits}
use Rattle.text.proofs.digits_after.Given as goal

abbrev pub invariant-loop-b : goal.invariant-loop-b
invariant-loop-b l = Digits l.n l.word l.m l.b-index
