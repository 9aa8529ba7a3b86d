use native.Mathlib.Omega.{arith}
use mathlib.Core.Path.{◌∙◌, sym}
use Rattle.text.proofs.Numbers.{number_digits, number_empty, number_long}
use Rattle.text.proofs.number_of.Goals as goal

pub returns-then-word-eq0 : goal.returns-then-word-eq0
returns-then-word-eq0 c = sym (number_empty _ c.if-word-eq0.true)

pub returns-then-word-gt9 : goal.returns-then-word-gt9
returns-then-word-gt9 c = sym (number_long _ c.if-word-gt9.true)

pub returns : goal.returns
returns c = c.digits_after.ensures ∙ sym (number_digits _ (omega arith) (omega arith))
