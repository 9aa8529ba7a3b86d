use Rattle.std.specs.Prelude.{Err}
use mathlib.Core.Path.{◌≡◌, ◌∙◌, ap, sym}
use mathlib.Core.List.{[]}
use Rattle.errors.proofs.Laws.{accepted_none, handed_on}
use Rattle.errors.specs.Faults.{first}
use Rattle.pattern_file.specs.File.{file_content, table_faults}
use Rattle.store.specs.Store.{held}
use Rattle.store_read.proofs.Laws.{loaded_all, loaded_kept}
use Rattle.store_read.proofs.load.Goals as goal
use Rattle.store_read.proofs.load.Goals.{In_ok-check_table}

right : (c : In_ok-check_table) → table_faults c.args.s.now ≡ []
right c = accepted_none (table_faults c.args.s.now) (sym c.check_table.ensures ∙ c.in_ok-check_table.was)

pub read_content-requires : goal.read_content-requires
read_content-requires c = right (goal.at.read_content-requires c).In_ok-check_table

pub returns-in_err-check_table-clause-value : goal.returns-in_err-check_table-clause-value
returns-in_err-check_table-clause-value c =
    handed_on _ _ c.from_residual.ensures.1 ∙ (sym c.in_err-check_table.was ∙ c.check_table.ensures)

pub returns-in_err-check_table-clause-spans_after : goal.returns-in_err-check_table-clause-spans_after
returns-in_err-check_table-clause-spans_after c =
    loaded_kept (table_faults c.args.s.now) _ (held c.args.t.now c.args.spans.now) (file_content c.args.s.now) (sym c.check_table.ensures ∙ c.in_err-check_table.was)

pub returns-clause-value : goal.returns-clause-value
returns-clause-value c = sym (ap first (right (goal.at.returns-clause-value c).In_ok-check_table))

pub returns-clause-spans_after : goal.returns-clause-spans_after
returns-clause-spans_after c = c.read_content.ensures ∙ loaded_all (table_faults c.args.s.now) (held c.args.t.now c.args.spans.now) (file_content c.args.s.now) (right (goal.at.returns-clause-spans_after c).In_ok-check_table)
