use Rattle.std.specs.Prelude.{Err}
use mathlib.Core.Path.{◌∙◌, sym, ◌≡◌}
use Rattle.errors.proofs.Laws.{refused_first, handed_on}
use Rattle.pattern.specs.Checks.{content_faults}
use Rattle.pattern_file.specs.File.{file_content, table_faults}
use Rattle.store.proofs.View.{held_full}
use Rattle.store.specs.Store.{held}
use Rattle.store_read.proofs.Laws.{loaded_checked, loaded_counts}
use Rattle.store_read.proofs.read.Goals as goal

pub check_records-requires : goal.check_records-requires
check_records-requires c = loaded_counts c.args.s.now (held c.args.t.now c.args.spans.now) _ (held_full c.args.t.now c.args.spans.now c.tables_known.ensures) c.load.ensures.spans_after (sym c.load.ensures.value ∙ c.in_ok-load.was)

pub returns-in_err-load-clause-value : goal.returns-in_err-load-clause-value
returns-in_err-load-clause-value c =
    handed_on _ _ c.from_residual.ensures.1 ∙ (sym (refused_first (table_faults c.args.s.now) (content_faults (file_content c.args.s.now)) _ (sym c.load.ensures.value ∙ c.in_err-load.was)))

pub returns-in_err-load-clause-spans_after : goal.returns-in_err-load-clause-spans_after
returns-in_err-load-clause-spans_after c = c.load.ensures.spans_after

pub returns-clause-value : goal.returns-clause-value
returns-clause-value c = c.check_records.ensures ∙ loaded_checked c.args.s.now (held c.args.t.now c.args.spans.now) _ (held_full c.args.t.now c.args.spans.now c.tables_known.ensures) c.load.ensures.spans_after (sym c.load.ensures.value ∙ c.in_ok-load.was)

pub returns-clause-spans_after : goal.returns-clause-spans_after
returns-clause-spans_after c = c.load.ensures.spans_after
