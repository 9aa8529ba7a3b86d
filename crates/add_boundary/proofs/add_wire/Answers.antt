-- All is judged; then the uses and the lengths are written.
use mathlib.Core.Path.{◌∙◌, ◌≡◌, sym}
use native.Mathlib.Numerals.{add-one}
use native.Mathlib.Omega.{arith}
use lib.ListN.{length}
use Rattle.std.specs.Prelude.{Ok}
use Rattle.errors.proofs.Laws.{handed_on}
use Rattle.add_boundary.proofs.Laws.{fine_answer, fine_out, is_short, sets_nothing, sets_same, unfit_answer, unfit_out, uses_fit, wires_fit}
use Rattle.add_boundary.specs.Boundary.{first_of, new_faults}
use Rattle.add_boundary.proofs.add_wire.Goals as goal
use Rattle.add_boundary.proofs.add_wire.Goals.{In_ok-judge_wire}

-- nothing is wrong
fine : (c : In_ok-judge_wire) → let args = c.args in
    first_of (new_faults args.wire.now.ends.fronts.now args.wire.now.ends.backs.now args.own.now.uses.now (length args.sizes.now) args.wire.now.uses.now (length args.uses.now) (length args.lens.now)) ≡ Ok tt
fine c = sym c.judge_wire.ensures ∙ c.in_ok-judge_wire.was

pub returns-in_err-judge_wire-clause-value : goal.returns-in_err-judge_wire-clause-value
returns-in_err-judge_wire-clause-value c =
    handed_on _ _ c.from_residual.ensures.1 ∙ unfit_answer _ _ _ (sym c.judge_wire.ensures ∙ c.in_err-judge_wire.was)

pub returns-in_err-judge_wire-clause-uses_after : goal.returns-in_err-judge_wire-clause-uses_after
returns-in_err-judge_wire-clause-uses_after c =
    sets_nothing _ _ (unfit_out _ _ _ (sym c.judge_wire.ensures ∙ c.in_err-judge_wire.was))

pub returns-in_err-judge_wire-clause-lens_after : goal.returns-in_err-judge_wire-clause-lens_after
returns-in_err-judge_wire-clause-lens_after c =
    sets_nothing _ _ (unfit_out _ _ _ (sym c.judge_wire.ensures ∙ c.in_err-judge_wire.was))

pub put_boundary-requires : goal.put_boundary-requires
put_boundary-requires c = let args = c.args in
    uses_fit args.wire.now.ends.fronts.now args.wire.now.ends.backs.now args.own.now.uses.now (length args.sizes.now) args.wire.now.uses.now (length args.uses.now) (length args.lens.now) (fine (goal.at.put_boundary-requires c).In_ok-judge_wire)

pub put_length-requires : goal.put_length-requires
put_length-requires c = let h = fine (goal.at.put_length-requires c).In_ok-judge_wire in
    (wires_fit c.args.wire.now.ends.fronts.now c.args.wire.now.ends.backs.now c.args.own.now.uses.now (length c.args.sizes.now) c.args.wire.now.uses.now (length c.args.uses.now) (length c.args.lens.now) h, omega (arith, is_short _ _ c.args.own.now.uses.now (length c.args.sizes.now) _ (length c.args.uses.now) (length c.args.lens.now) h c.args.wire.now.named))

pub returns-clause-value : goal.returns-clause-value
returns-clause-value c = rw add-one (fine_answer _ _ (fine (goal.at.returns-clause-value c).In_ok-judge_wire))

pub returns-clause-uses_after : goal.returns-clause-uses_after
returns-clause-uses_after c = sets_same _ _ _ _ c.put_boundary.ensures (fine_out _ _ (fine (goal.at.returns-clause-uses_after c).In_ok-judge_wire))

pub returns-clause-lens_after : goal.returns-clause-lens_after
returns-clause-lens_after c = sets_same _ _ _ _ c.put_length.ensures (fine_out _ _ (fine (goal.at.returns-clause-lens_after c).In_ok-judge_wire))
