-- The other records, then the face rule.
use Rattle.std.specs.Prelude.{Err}
use mathlib.Core.Path.{◌∙◌, sym, ◌≡◌}
use native.Mathlib.Omega.{arith}
use Rattle.errors.proofs.Laws.{accepted_none, handed_on}
use Rattle.pattern.proofs.Columns.{columns_named, columns_passed, columns_refused, lists_faces, lists_wires}
use Rattle.pattern.proofs.Lists.check.Goals as goal

pub invariant_of-wires : goal.invariant_of-wires
invariant_of-wires c = record { named = columns_named c.requires _ _ (accepted_none _ (sym c.check_numbers.ensures ∙ c.in_ok-check_numbers.was)) }

pub check_faces-requires : goal.check_faces-requires
check_faces-requires c =
    let ok = accepted_none _ (sym c.check_numbers.ensures ∙ c.in_ok-check_numbers.was) in
    record { counts_in_bounds = (c.requires.faces_few, omega (arith, c.requires.wires_few)); counts_value = (lists_faces _ _ _ _ _ _ ok, lists_wires _ _ _ _ _ _ ok) }

pub returns-in_err-check_numbers : goal.returns-in_err-check_numbers
returns-in_err-check_numbers c =
    handed_on _ _ c.from_residual.ensures.1 ∙ (columns_refused c.requires _ _ _ (sym c.check_numbers.ensures ∙ c.in_err-check_numbers.was))

pub returns : goal.returns
returns c = c.check_faces.ensures ∙ columns_passed c.requires _ _ (accepted_none _ (sym c.check_numbers.ensures ∙ c.in_ok-check_numbers.was))
