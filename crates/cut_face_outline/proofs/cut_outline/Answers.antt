-- The wire has no use, or its back is not on the outline, or the outline is cut from there on.
use Prim.Native.Nat.{◌≤◌, ℕ}
use mathlib.Core.Path.{◌∙◌, ◌≡◌, sym}
use native.Mathlib.Omega.{arith}
use lib.ListN.{length, replicate, take}
use Rattle.cut_face_results.proofs.Few.{named_flipped, named_of, rotated_uses}
use Rattle.cut_face_outline.proofs.Laws.{end_some, outline_empty, outline_none, outline_some, rotated_long, rotated_part}
use Rattle.face_edits.specs.FaceEdits.{from_place, last_point}
use Rattle.wire.specs.Wires.{end_from}
use Rattle.std.specs.Prelude.{Some}
use Rattle.cut_face_outline.proofs.cut_outline.Goals as goal
use Rattle.cut_face_outline.proofs.cut_outline.Goals.{After-rotate_to, In-Some}

-- a record from the pairs that a law gives
split3 : {A B C R : Type 0} → (A → B → C → R) → A × (B × C) → R
split3 f p = f p.0 p.1.0 p.1.1

-- where the back is
place : (c : In-Some) → let cut = c.args.cut.now in
    end_from cut.ends.backs.now cut.ends.fronts.now 0 (last_point cut.ends.fronts.now cut.ends.backs.now cut.wire.now) cut.outline.now ≡ Some c.in-Some.i
place c = rw (c.last_point-back.ensures, c.turned.ensures.0, c.turned.ensures.1) at (sym c.find_end.ensures ∙ c.in-Some.is)

inside : (c : In-Some) → c.in-Some.i ≤ length c.args.cut.now.outline.now
inside c = omega (arith, (end_some _ _ 0 _ _ _ (place c)).1)

-- the outline from there on, as it stands in the array
from_there : (c : After-rotate_to) → end_from c.args.cut.now.ends.backs.now c.args.cut.now.ends.fronts.now 0 (last_point c.args.cut.now.ends.fronts.now c.args.cut.now.ends.backs.now c.args.cut.now.wire.now) c.args.cut.now.outline.now ≡ Some c.in-Some.i
    → take (length c.args.cut.now.outline.now) c.rotate_to.new.out ≡ from_place c.in-Some.i c.args.cut.now.outline.now
from_there c there = let cut = c.args.cut.now in
    rotated_part _ _ cut.outline.now cut.wire.now (omega arith) (replicate {A = ℕ} 4096 0) _ c.in-Some.i there (omega (arith, cut.few)) c.rotate_to.ensures

pub returns-then-cut-eq0 : goal.returns-then-cut-eq0
returns-then-cut-eq0 c =
    split3 (λ x y z. record { value = x; uses_after = y; lens_after = z }) (outline_empty _ _ _ _ _ _ c.if-cut-eq0.true)

pub invariant_of-wire : goal.invariant_of-wire
invariant_of-wire c = record { named = named_of _ _ _ c.args.cut.now.point_ends c.args.cut.now.wire_edges }

pub invariant_of-turned : goal.invariant_of-turned
invariant_of-turned c = record { named = rw (c.turned.ensures.0, c.turned.ensures.1) (named_flipped _ _ _ c.args.cut.now.point_ends c.args.cut.now.outline_edges) }

pub returns-in_default : goal.returns-in_default
returns-in_default c = let cut = c.args.cut.now in
    split3 (λ x y z. record { value = x; uses_after = y; lens_after = z }) (outline_none _ _ cut.outline.now cut.wire.now (omega arith) c.args.uses.now c.args.lens.now (rw (c.last_point-back.ensures, c.turned.ensures.0, c.turned.ensures.1) at (sym c.find_end.ensures ∙ c.in_default.is)))

pub rotate_to-requires : goal.rotate_to-requires
rotate_to-requires c = (inside (goal.at.rotate_to-requires c).In-Some, c.args.cut.now.few)

pub invariant_of-along : goal.invariant_of-along
invariant_of-along c = let cut = c.args.cut.now in
    let there = place (goal.at.invariant_of-along c).In-Some in
    let is = from_there (goal.at.invariant_of-along c).After-rotate_to there in record {
      few = rw is (omega (arith, rotated_long cut.ends.fronts.now cut.ends.backs.now cut.outline.now cut.wire.now (omega arith) c.in-Some.i (inside (goal.at.invariant_of-along c).In-Some), cut.few));
      point_ends = cut.point_ends;
      outline_edges = rw is (rotated_uses (length cut.ends.fronts.now) cut.outline.now cut.outline_edges c.in-Some.i);
      wire_edges = cut.wire_edges;
    }

pub returns-clause-value : goal.returns-clause-value
returns-clause-value c = let cut = c.args.cut.now in
    rw (← outline_some _ _ cut.outline.now cut.wire.now (omega arith) (replicate {A = ℕ} 4096 0) _ c.in-Some.i _ _ (place (goal.at.returns-clause-value c).In-Some) (omega (arith, cut.few)) c.rotate_to.ensures) c.cut_along.ensures.value

pub returns-clause-uses_after : goal.returns-clause-uses_after
returns-clause-uses_after c = let cut = c.args.cut.now in
    rw (← outline_some _ _ cut.outline.now cut.wire.now (omega arith) (replicate {A = ℕ} 4096 0) _ c.in-Some.i _ _ (place (goal.at.returns-clause-uses_after c).In-Some) (omega (arith, cut.few)) c.rotate_to.ensures) c.cut_along.ensures.uses_after

pub returns-clause-lens_after : goal.returns-clause-lens_after
returns-clause-lens_after c = let cut = c.args.cut.now in
    rw (← outline_some _ _ cut.outline.now cut.wire.now (omega arith) (replicate {A = ℕ} 4096 0) _ c.in-Some.i _ _ (place (goal.at.returns-clause-lens_after c).In-Some) (omega (arith, cut.few)) c.rotate_to.ensures) c.cut_along.ensures.lens_after
