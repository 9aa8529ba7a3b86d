-- The edit that the definition names, with its words as numbers of 16 bits.
use mathlib.Core.Path.{◌∙◌, sym}
use Rattle.job_edits.proofs.Edits.{concat_is, cut_is, remove_is}
use Rattle.job_edits.proofs.shell_job.Goals as goal

pub returns-in-Cut-clause-value : goal.returns-in-Cut-clause-value
returns-in-Cut-clause-value c = c.file_cut.ensures.value ∙ sym (cut_is c.args.v.now c.args.file.now c.args.out.now c.in-Cut.is c.saturated.ensures c.saturated-in-Cut.ensures)

pub returns-in-Remove-clause-value : goal.returns-in-Remove-clause-value
returns-in-Remove-clause-value c = c.file_remove.ensures.value ∙ sym (remove_is c.args.v.now c.args.file.now c.args.out.now c.in-Remove.is c.saturated-in-Remove.ensures)

pub returns-in-Concat-clause-value : goal.returns-in-Concat-clause-value
returns-in-Concat-clause-value c = c.file_concat.ensures.value ∙ sym (concat_is c.args.v.now c.args.file.now c.args.out.now c.in-Concat.is c.saturated-in-Concat.ensures c.saturated-in-Concat-2.ensures)
