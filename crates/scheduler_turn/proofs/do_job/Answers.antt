-- The numbers as they are given to the edits.
use Rattle.scheduler_turn.proofs.Laws.{job_cut, job_removal}
use Rattle.scheduler_turn.proofs.do_job.Goals as goal

pair : {A B : Type 0} → A → B → A × B
pair a b = (a, b)

pub returns-in-Cut : goal.returns-in-Cut
returns-in-Cut c = let a = c.args in
    job_cut a.file.now a.out.now c.requires a.job c.in-Cut.is c.saturated.ensures c.saturated-in-Cut.ensures c.bits_of.ensures (pair c.file_cut.ensures.value c.file_cut.ensures.out_after)

pub returns-in-Remove : goal.returns-in-Remove
returns-in-Remove c = let a = c.args in
    job_removal a.file.now a.out.now c.requires a.job c.in-Remove.is c.saturated-in-Remove.ensures (pair c.file_remove.ensures.value c.file_remove.ensures.out_after)
