use mathlib.Core.Path.{◌∙◌, ap, sym}
use Rattle.answers.specs.Values.{check_values}
use Rattle.file_reports.proofs.Laws.{counts_loaded, counts_refused}
use Rattle.file_reports.proofs.file_counts.Goals as goal

pub returns-in-Err-clause-value : goal.returns-in-Err-clause-value
returns-in-Err-clause-value c = let no = sym c.read.ensures.value ∙ c.in-Err.is in
    c.unread.ensures ∙ ap check_values (sym no)

pub returns-in-Err-clause-counts_after : goal.returns-in-Err-clause-counts_after
returns-in-Err-clause-counts_after c = let no = sym c.read.ensures.value ∙ c.in-Err.is in
    counts_refused c.args.file.now c.args.counts.now _ no

pub returns-in-Ok-clause-value : goal.returns-in-Ok-clause-value
returns-in-Ok-clause-value c = let ok = sym c.read.ensures.value ∙ c.in-Ok.is in
    c.done_with.ensures ∙ ap check_values (sym ok)

pub returns-in-Ok-clause-counts_after : goal.returns-in-Ok-clause-counts_after
returns-in-Ok-clause-counts_after c = let ok = sym c.read.ensures.value ∙ c.in-Ok.is in
    counts_loaded c.args.file.now c.args.counts.now _ c.read.ensures.spans_after ok _ c.copy_to.ensures
