use Rattle.errors.proofs.Laws.{handed_on}
use Rattle.std.specs.Prelude.{Err}
use Prim.Native.Nat.{◌+◌, ◌-◌, ◌<◌, ◌≤◌}
use mathlib.Core.Path.{◌∙◌, ap, refl, sym, ◌≡◌}
use native.Mathlib.Omega.{arith}
use lib.ListN.{drop, length, take}
use Rattle.errors.specs.Faults.{first}
use Rattle.face.proofs.Laws.{FaceAt, face_wires, part_long, part_sum, ruled_all, ruled_next, ruled_start, ruled_stop, uses_fit, uses_long, uses_next, wires_fit}
use Rattle.face.specs.Faces.{face_faults}
use Rattle.lists.proofs.Laws.{length_split}
use Rattle.lists.proofs.Split.{walk_fits, walk_next, walk_start}
use Rattle.lists.specs.Lists.{split, sum}
use Rattle.wire.proofs.Laws.{outline_part}
use borrow.Author.Rules.{rules}
use Rattle.face.proofs.check_faces.Goals as goal
use Rattle.face.proofs.check_faces.Goals.{After-from-n, After-sum_of-total, After-check_face}

-- the wires of the face that the loop has come to are there
fits : (c : After-from-n) → c.loop-count.first + c.from-n.result ≤ length c.args.lengths.now
fits c = omega (arith, walk_fits _ _ _ _ c.loop-count.invariant.0 c.loop-count-test.true c.from-n.ensures, c.requires.counts_value.0)

face : (c : After-sum_of-total) → FaceAt c.args.counts.now c.args.lengths.now c.args.wires.now.uses.now c.loop-count.count-index c.loop-count.first c.loop-count.at c.from-n.result c.sum_of-total.result
face c = record {
  walk = c.loop-count.invariant.0;
  here = c.loop-count.invariant.1;
  inside = c.loop-count-test.true;
  is = c.from-n.ensures;
  all_wires = c.requires.counts_value.0;
  all_uses = c.requires.counts_value.1;
  its_uses = c.sum_of-total.ensures;
}

-- the answer for the face that the loop has come to
judged : (c : After-check_face) → c.loop-count.at + c.sum_of-total.result ≤ length c.args.wires.now.uses.now → c.check_face.result ≡ first (face_faults c.args.wires.now.ends.fronts.now c.args.wires.now.ends.backs.now c.loop-count.first (face_wires c.args.lengths.now c.args.wires.now.uses.now c.loop-count.first c.loop-count.at c.from-n.result c.sum_of-total.result))
judged c inside = c.check_face.ensures.value
    ∙ rw (c.part.ensures.ends, c.part.ensures.uses, outline_part c.args.wires.now.uses.now c.loop-count.at c.sum_of-total.result inside)

pub loop-count-init : goal.loop-count-init
unfolding sum
loop-count-init c = (walk_start c.args.counts.now, refl, ruled_start _ _ _, omega arith)

pub overflow_add-part : goal.overflow_add-part
overflow_add-part c = omega (arith, fits (goal.at.overflow_add-part c).After-from-n)

pub offset_bounds-lengths-first : goal.offset_bounds-lengths-first
offset_bounds-lengths-first c = omega (arith, fits (goal.at.offset_bounds-lengths-first c).After-from-n)

pub slice_bounds-part-end : goal.slice_bounds-part-end
slice_bounds-part-end c = omega (arith, fits (goal.at.slice_bounds-part-end c).After-from-n)

pub check_face-requires-clause-lengths_in_bounds : goal.check_face-requires-clause-lengths_in_bounds
check_face-requires-clause-lengths_in_bounds c = let f = face (goal.at.check_face-requires-clause-lengths_in_bounds c).After-sum_of-total in
    (rw (c.part.ensures.uses, ← outline_part c.args.wires.now.uses.now c.loop-count.at c.sum_of-total.result (uses_fit f)) (omega (arith, part_sum f, uses_long f)), omega (arith, part_long f, wires_fit f))

pub check_face-requires-clause-stamps : goal.check_face-requires-clause-stamps
check_face-requires-clause-stamps c = let f = face (goal.at.check_face-requires-clause-stamps c).After-sum_of-total in
    omega (arith, part_long f, wires_fit f, c.loop-count.invariant.3)

pub returns-in_err-check_face : goal.returns-in_err-check_face
returns-in_err-check_face c = let p = goal.at.returns-in_err-check_face c in
    let f = face p.After-sum_of-total in
    handed_on _ _ c.from_residual.ensures.1 ∙ sym (ruled_stop _ _ f c.loop-count.invariant.2 _ (sym (judged p.After-check_face (uses_fit f)) ∙ c.in_err-check_face.was))

pub overflow_add-at : goal.overflow_add-at
overflow_add-at c = omega (arith, uses_fit (face (goal.at.overflow_add-at c).After-sum_of-total))

pub loop-count-preserved : goal.loop-count-preserved
loop-count-preserved c = let p = goal.at.loop-count-preserved c in
    let f = face p.After-sum_of-total in (
      walk_next _ _ _ _ f.walk f.inside f.is,
      uses_next f,
      ruled_next _ _ f c.loop-count.invariant.2 (sym (judged p.After-check_face (uses_fit f)) ∙ c.in_ok-check_face.was),
      omega (arith, part_long f, c.loop-count.invariant.3, c.check_face.ensures.stamp_after),
    )

pub returns : goal.returns
returns c = ap first (sym (ruled_all _ _ (split _ _) _ _ c.loop-count.invariant.2 (rw (length_split _ _) c.loop-count-test.false)))
