use Rattle.std.proofs.Common.{◌≤◌, arith}
use Rattle.store.specs.Store.{held}
use Rattle.mesh_read.proofs.Pieces.{Stepping, read_more, stepping_all, stepping_next, stepping_past, stepping_start}
use Rattle.mesh_read.proofs.Runs.{stepping_refused, stepping_run}
use Rattle.mesh_words.proofs.Places.{going_low, stopped_high}
use Rattle.mesh_read.proofs.step.Goals as goal
use Rattle.mesh_read.proofs.step.Goals.{Joined-r, in-Rest, in_default-place}

-- what is passed over, or the run, is read
here : (c : Joined-r) → let args = c.args in
    let e = c.match-r.e in
    (c.loop-i.i ≤ e)
    × Stepping args.piece.now args.r (held args.t.now args.spans.now) args.index.now e c.match-r.r (held c.loop-i.t c.loop-i.spans) c.loop-i.index
here c =
    let s = c.loop-i.invariant in
    elim c.match-r.branch [
      | in-Rest w ↦ let ends = w.line_end-e.ensures in rw (w.r-is, w.e-is) (omega (arith, ends), stepping_past s _ w.in-Rest.is ends.0 ends.1)
      | in_default-place w ↦
          let ends = w.run_end-end.ensures in
          rw (w.r-is, w.e-is) (omega (arith, ends), stepping_run s _ _ (going_low c.loop-i.r.place c.fault.ensures c.in_default.not-Some) w.in_default-place.not-Rest ends.0 ends.1 w.ink_all-r.ensures)
    ]

pub loop-i-init : goal.loop-i-init
loop-i-init c =
    stepping_start _ _ _ _

pub returns-in-Some : goal.returns-in-Some
returns-in-Some c =
    read_more _ (stepping_refused c.loop-i.invariant (stopped_high c.loop-i.r.place c.fault.ensures c.in-Some.is))

pub returns : goal.returns
returns c =
    read_more _ (stepping_all c.loop-i.invariant c.loop-i-test.false)

pub returns-then-e-piece : goal.returns-then-e-piece
returns-then-e-piece c =
    read_more _ (stepping_all (here (goal.at.returns-then-e-piece c).Joined-r).1 c.if-e-piece.true)

pub loop-i-preserved : goal.loop-i-preserved
loop-i-preserved c =
    stepping_next (here (goal.at.loop-i-preserved c).Joined-r).1 _ _ _ (omega arith) c.byte-r.ensures

pub loop-i-smaller : goal.loop-i-smaller
loop-i-smaller c = let h = (here (goal.at.loop-i-smaller c).Joined-r).0 in omega arith
