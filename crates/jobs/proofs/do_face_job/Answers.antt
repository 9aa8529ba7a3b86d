-- A refusal, or the wires; they are in the lists as their lengths say.
use Rattle.job_edits.proofs.Told.{Held, told_fits, told_parts, told_room}
use Rattle.jobs.proofs.Texts.{face_done, face_refused, text_as}
use borrow.Author.Rules.{rules}
use Rattle.jobs.proofs.do_face_job.Goals as goal
use Rattle.jobs.proofs.do_face_job.Goals.{Else-a-ne0}

-- what was answered if the edit is done
held : (c : Else-a-ne0) → Held c.args.task c.args.v.now c.args.file.now c.face_job-a.result c.face_job-a.new.uses c.face_job-a.new.lens
held c =
    record { is = c.face_job-a.ensures.value; done = c.if-a-ne0.false; held = c.face_job-a.ensures.uses_after; kept = c.face_job-a.ensures.lens_after }

pub returns-then-a-ne0 : goal.returns-then-a-ne0
returns-then-a-ne0 c =
    text_as (face_refused c.args.task c.args.v.now c.args.file.now _ c.face_job-a.ensures.value c.if-a-ne0.true) _ _ _ (c.put_refused.ensures.0, c.put_refused.ensures.1)

pub slice_bounds-put_done-end : goal.slice_bounds-put_done-end
slice_bounds-put_done-end c =
    (told_room (held (goal.at.slice_bounds-put_done-end c).Else-a-ne0)).0

pub slice_bounds-put_done-end-2 : goal.slice_bounds-put_done-end-2
slice_bounds-put_done-end-2 c =
    (told_room (held (goal.at.slice_bounds-put_done-end-2 c).Else-a-ne0)).1

pub put_done-requires : goal.put_done-requires
put_done-requires c =
    let e = told_fits (held (goal.at.put_done-requires c).Else-a-ne0) in (search rules, e.0, e.1, e.2)

pub returns : goal.returns
returns c =
    text_as (face_done c.args.task c.args.v.now c.args.file.now _ c.face_job-a.ensures.value c.if-a-ne0.false (told_parts (held (goal.at.returns c).Else-a-ne0))) _ _ _ c.put_done.ensures
