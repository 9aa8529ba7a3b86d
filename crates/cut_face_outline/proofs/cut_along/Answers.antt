-- The wire's front is not on the outline, or the outline is cut there.
use mathlib.Core.Path.{◌∙◌, ◌≡◌, sym}
use native.Mathlib.Omega.{arith}
use Rattle.cut_face_results.proofs.Few.{named_of}
use Rattle.cut_face_outline.proofs.Laws.{along_none, along_some, end_some}
use Rattle.face_edits.specs.FaceEdits.{first_point}
use Rattle.wire.specs.Wires.{end_from}
use Rattle.std.specs.Prelude.{Some}
use Rattle.cut_face_outline.proofs.cut_along.Goals as goal
use Rattle.cut_face_outline.proofs.cut_along.Goals.{In-Some}

-- a record from the pairs that a law gives
split3 : {A B C R : Type 0} → (A → B → C → R) → A × (B × C) → R
split3 f p = f p.0 p.1.0 p.1.1

-- where the front is
place : (c : In-Some) → let cut = c.args.cut.now in
    end_from cut.ends.fronts.now cut.ends.backs.now 0 (first_point cut.ends.fronts.now cut.ends.backs.now cut.wire.now) cut.outline.now ≡ Some c.in-Some.j
place c = rw c.first_point-front.ensures at (sym c.find_end.ensures ∙ c.in-Some.is)

pub invariant_of-wire : goal.invariant_of-wire
invariant_of-wire c = record { named = named_of _ _ _ c.args.cut.now.point_ends c.args.cut.now.wire_edges }

pub invariant_of-along : goal.invariant_of-along
invariant_of-along c = record { named = named_of _ _ _ c.args.cut.now.point_ends c.args.cut.now.outline_edges }

pub overflow_add-j : goal.overflow_add-j
overflow_add-j c = omega (arith, (end_some _ _ 0 _ _ _ (place (goal.at.overflow_add-j c).In-Some)).1, c.args.cut.now.few)

pub cut_after-requires : goal.cut_after-requires
cut_after-requires c = omega (arith, (end_some _ _ 0 _ _ _ (place (goal.at.cut_after-requires c).In-Some)).1)

pub returns-in_default : goal.returns-in_default
returns-in_default c =
    split3 (λ x y z. record { value = x; uses_after = y; lens_after = z }) (along_none _ _ c.args.cut.now.outline.now c.args.cut.now.wire.now c.args.uses.now c.args.lens.now (rw c.first_point-front.ensures at (sym c.find_end.ensures ∙ c.in_default.is)))

pub returns-clause-value : goal.returns-clause-value
returns-clause-value c = rw (← along_some _ _ _ _ _ _ _ (place (goal.at.returns-clause-value c).In-Some)) c.cut_after.ensures.value

pub returns-clause-uses_after : goal.returns-clause-uses_after
returns-clause-uses_after c = rw (← along_some _ _ _ _ _ _ _ (place (goal.at.returns-clause-uses_after c).In-Some)) c.cut_after.ensures.uses_after

pub returns-clause-lens_after : goal.returns-clause-lens_after
returns-clause-lens_after c = rw (← along_some _ _ _ _ _ _ _ (place (goal.at.returns-clause-lens_after c).In-Some)) c.cut_after.ensures.lens_after
