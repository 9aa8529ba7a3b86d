-- The digits make a number below 10^15, or there is another byte.
use Rattle.std.specs.Prelude.{Some}
use Rattle.std.proofs.Common.{sym, ap, ◌∙◌, arith}
use Rattle.decimals.proofs.Numerals.{tens, token_bound}
use Rattle.decimals.proofs.Unsigned.{behind_not, behind_value}
use Rattle.decimals.proofs.places_after.Goals as goal

pub nearest_bits-requires : goal.nearest_bits-requires
nearest_bits-requires c = (omega (arith, token_bound tens _ _ _ (sym c.in_ok-m.was ∙ c.digits_after.ensures)), omega arith)

pub returns-in_err-m : goal.returns-in_err-m
returns-in_err-m c = c.from_residual.ensures ∙ (behind_not _ _ _ _ (sym c.in_err-m.was ∙ c.digits_after.ensures))

pub returns : goal.returns
returns c = ap Some c.nearest_bits.ensures
    ∙ behind_value _ _ _ _ _ (sym c.in_ok-m.was ∙ c.digits_after.ensures)
