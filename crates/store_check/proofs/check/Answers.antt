use Rattle.std.specs.Prelude.{Err}
use mathlib.Core.Path.{◌∙◌, sym, ◌≡◌}
use Rattle.errors.proofs.Laws.{accepted_none, passed_first, refused_first, handed_on}
use Rattle.pattern.specs.Checks.{content_faults, count_faults}
use Rattle.pattern.specs.Contents.{content}
use Rattle.store.specs.Store.{count_table, held}
use Rattle.store_check.proofs.check.Goals as goal

pub check_records-requires : goal.check_records-requires
check_records-requires c = accepted_none (count_faults (count_table c.args.t.now)) (rw c.counts_in.ensures at (sym c.check_counts.ensures ∙ c.in_ok-check_counts.was))

pub returns-in_err-check_counts : goal.returns-in_err-check_counts
returns-in_err-check_counts c =
    handed_on _ _ c.from_residual.ensures.1 ∙ (sym (refused_first (count_faults (count_table c.args.t.now)) (content_faults (content (held c.args.t.now c.args.spans.now))) _ (rw c.counts_in.ensures at (sym c.check_counts.ensures ∙ c.in_err-check_counts.was))))

pub returns : goal.returns
returns c = c.check_records.ensures ∙ sym (passed_first (count_faults (count_table c.args.t.now)) (content_faults (content (held c.args.t.now c.args.spans.now))) (rw c.counts_in.ensures at (sym c.check_counts.ensures ∙ c.in_ok-check_counts.was)))
