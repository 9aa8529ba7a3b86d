-- No sign; no number before it; the number and the sign.
use native.Mathlib.Omega.{arith}
use mathlib.Core.Path.{sym, ◌∙◌}
use Rattle.text.proofs.Numbers.{signed_empty, signed_is, signed_other}
use Rattle.text.proofs.signed_of.Goals as goal

pub returns-in_err-sign : goal.returns-in_err-sign
returns-in_err-sign c = c.from_residual.ensures ∙ sym (signed_empty _ c.in_err-sign.ensures.cases)

pub returns-in_err-number_of : goal.returns-in_err-number_of
returns-in_err-number_of c =
    c.from_residual-in_err-number_of.ensures ∙ sym (signed_is _ _ _ c.in_ok-sign.ensures.cases.0 c.number_of.ensures c.in_err-number_of.was)

pub returns-in-43 : goal.returns-in-43
returns-in-43 c =
    sym (signed_is _ _ _ c.in_ok-sign.ensures.cases.0 c.number_of.ensures c.in_ok-number_of.was ∙ rw (c.in-43.is, c.min-k.ensures))

pub returns-in-45 : goal.returns-in-45
returns-in-45 c =
    sym (signed_is _ _ _ c.in_ok-sign.ensures.cases.0 c.number_of.ensures c.in_ok-number_of.was ∙ rw (c.in-45.is, c.min-k.ensures))

pub returns-in_default : goal.returns-in_default
returns-in_default c =
    sym (signed_is _ _ _ c.in_ok-sign.ensures.cases.0 c.number_of.ensures c.in_ok-number_of.was ∙ signed_other _ c.in_ok-sign.sign.now (λ h. omega arith) (λ h. omega arith))
