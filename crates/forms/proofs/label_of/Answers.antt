-- Up to nine digits, or nine and one; each number is below 10^9.
use mathlib.Core.Path.{◌∙◌, sym}
use native.Mathlib.Omega.{arith}
use Rattle.forms.proofs.Tokens.{label_both, label_first, label_last, label_long, label_short}
use Rattle.text.proofs.Numbers.{number_below}
use Rattle.forms.proofs.label_of.Goals as goal

pub returns-then-word-le9 : goal.returns-then-word-le9
returns-then-word-le9 c = c.number_of.ensures ∙ sym (label_short _ c.if-word-le9.true)

pub returns-then-word-gt10 : goal.returns-then-word-gt10
returns-then-word-gt10 c = sym (label_long _ (omega arith))

pub overflow_mul-m : goal.overflow_mul-m
overflow_mul-m c = omega (arith, number_below _ _ (sym c.number_of-2.ensures ∙ c.in_ok-m.was))

pub overflow_add-m : goal.overflow_add-m
overflow_add-m c = omega (arith, number_below _ _ (sym c.number_of-2.ensures ∙ c.in_ok-m.was), number_below _ _ (sym c.number_of-3.ensures ∙ c.in_ok-d.was))

pub returns-in_err-m : goal.returns-in_err-m
returns-in_err-m c = c.from_residual.ensures ∙ sym (label_first _ (omega arith) c.number_of-2.ensures c.in_err-m.was)

pub returns-in_err-d : goal.returns-in_err-d
returns-in_err-d c = c.from_residual-in_err-d.ensures ∙ sym (label_last _ (omega arith) c.number_of-2.ensures c.in_ok-m.was c.number_of-3.ensures c.in_err-d.was)

pub returns : goal.returns
returns c = c.below.ensures ∙ sym (label_both _ (omega arith) c.number_of-2.ensures c.in_ok-m.was c.number_of-3.ensures c.in_ok-d.was)
