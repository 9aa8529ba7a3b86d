-- With a mark or without.
use mathlib.Core.Path.{◌∙◌, sym}
use Rattle.answer_lines.proofs.Bounds.{put_front}
use Rattle.job_lines.proofs.Answers.{no_name}
use Rattle.jobs.proofs.Marks.{unnamed_marked, unnamed_other}
use Rattle.jobs.proofs.Texts.{text_as}
use Rattle.jobs.proofs.put_unnamed.Goals as goal

pub returns-then-is_marked : goal.returns-then-is_marked
returns-then-is_marked c = put_front _ _ _ (unnamed_marked _ _ c.is_marked.ensures c.if-is_marked.true) c.put_text.ensures

pub returns : goal.returns
returns c = text_as (unnamed_other _ _ c.is_marked.ensures c.if-is_marked.false ∙ sym (no_name 2)) _ _ _ c.put_no_job.ensures
