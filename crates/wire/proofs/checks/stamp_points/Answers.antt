use Prim.Native.Nat.{◌<◌}
use mathlib.Core.Path.{◌∙◌, ◌≡◌, sym}
use lib.ListN.{get_or, length, length-map}
use Rattle.lists.proofs.Marks.{stamping_again, stamping_marks, stamping_met, stamping_on}
use Rattle.wire.proofs.Laws.{get_d_points}
use Rattle.wire.specs.Wires.{points}
use Rattle.wire.proofs.checks.stamp_points.Goals as goal
use Rattle.wire.proofs.checks.stamp_points.Goals.{then-marks-p, else-marks-p}

pub loop-u-preserved : goal.loop-u-preserved
loop-u-preserved c = let u = c.loop-u in
    let ps = points c.args.wire.now.ends.fronts.now c.args.wire.now.ends.backs.now c.args.wire.now.uses.now in
    let at : c.front_of-p.result ≡ get_or ps u.u-index 0 = c.front_of-p.ensures ∙ sym (get_d_points _ _ _ _ c.loop-u-test.true) in
    let inside : u.u-index < length ps = simp length-map c.loop-u-test.true in
    elim c.if-marks-p.branch [
      | then-marks-p w ↦ rw w.again-is (stamping_again _ _ _ _ _ _ _ u.invariant inside at w.if-marks-p.true)
      | else-marks-p w ↦ rw w.again-is (stamping_on _ _ _ _ _ _ _ u.invariant inside at w.if-marks-p.false)
    ]

pub returns-clause-value : goal.returns-clause-value
returns-clause-value c = stamping_met _ _ _ _ _ _ c.loop-u.invariant (simp length-map c.loop-u-test.false)

pub returns-clause-marks_after : goal.returns-clause-marks_after
returns-clause-marks_after c = stamping_marks _ _ _ _ _ _ c.loop-u.invariant (simp length-map c.loop-u-test.false)
