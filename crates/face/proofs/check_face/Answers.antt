-- The wires one by one, then, where there are two or more, with a new stamp against each other.
use Rattle.std.specs.Prelude.{Ok, Err}
use mathlib.Core.Path.{◌∙◌, ◌≡◌, ap, sym}
use native.Mathlib.Omega.{arith}
use Rattle.errors.proofs.Laws.{accepted_none, passed_first, refused_first, handed_on}
use Rattle.errors.specs.Faults.{each, first}
use Rattle.face.proofs.Laws.{one_alone}
use Rattle.face.specs.Faces.{outline_faults}
use Rattle.lists.proofs.Laws.{length_split}
use Rattle.lists.specs.Lists.{split}
use Rattle.face.proofs.check_face.Goals as goal
use Rattle.face.proofs.check_face.Goals.{In_ok-check_wires}

-- no wire has a fault by itself
fine : (c : In_ok-check_wires) → first (each (outline_faults c.args.wires.now.ends.fronts.now c.args.wires.now.ends.backs.now) c.args.first (split c.args.lengths.now c.args.wires.now.uses.now)) ≡ Ok tt
fine c = sym c.check_wires.ensures.value ∙ c.in_ok-check_wires.was

pub returns-then-lengths-lt2-clause-value : goal.returns-then-lengths-lt2-clause-value
returns-then-lengths-lt2-clause-value c = let few = length_split c.args.lengths.now c.args.wires.now.uses.now in
    sym (passed_first _ _ (fine (goal.at.returns-then-lengths-lt2-clause-value c).In_ok-check_wires) ∙ ap first (one_alone _ _ _ _ (omega (arith, few, c.if-lengths-lt2.true))))

pub disjoint_wires-requires-clause-uses_value : goal.disjoint_wires-requires-clause-uses_value
disjoint_wires-requires-clause-uses_value c = accepted_none _ (fine (goal.at.disjoint_wires-requires-clause-uses_value c).In_ok-check_wires)

pub returns-in_err-check_wires-clause-value : goal.returns-in_err-check_wires-clause-value
returns-in_err-check_wires-clause-value c =
    handed_on _ _ c.from_residual.ensures.1 ∙ (sym (refused_first _ _ _ (sym c.check_wires.ensures.value ∙ c.in_err-check_wires.was)))

pub returns-clause-value : goal.returns-clause-value
returns-clause-value c = c.disjoint_wires.ensures.value ∙ sym (passed_first _ _ (fine (goal.at.returns-clause-value c).In_ok-check_wires))
