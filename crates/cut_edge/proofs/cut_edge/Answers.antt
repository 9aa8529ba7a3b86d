use mathlib.Core.Path.{◌∙◌, sym}
use Rattle.cut_edge.proofs.Answer.{cut_unread, names, unnamed}
use Rattle.cut_edge.proofs.Store.{Sound, sound_fine}
use Rattle.errors.proofs.Laws.{accepted_none, handed_on}
use Rattle.shell_wires.proofs.Facts.{Fine}
use Rattle.store.specs.Store.{held}
use Rattle.cut_edge.proofs.cut_edge.Goals as goal
use Rattle.cut_edge.proofs.cut_edge.Goals.{After-tables_known}

fine : (c : After-tables_known) → Fine (held c.args.t.now c.args.spans.now)
fine c =
    let sound : Sound c.args.t.now c.args.spans.now = record { long = c.tables_known.ensures; ok = accepted_none _ (sym c.check.ensures ∙ c.in_ok-check.was) } in
    sound_fine sound

pub returns-in_err-check-clause-value : goal.returns-in_err-check-clause-value
returns-in_err-check-clause-value c =
    handed_on _ _ c.from_residual.ensures.1 ∙ (cut_unread _ c.args.n c.args.e.0 c.args.v.0 c.args.at _ (sym c.check.ensures ∙ c.in_err-check.was)).0

pub returns-in_err-check-clause-spans_after : goal.returns-in_err-check-clause-spans_after
returns-in_err-check-clause-spans_after c =
    (cut_unread _ c.args.n c.args.e.0 c.args.v.0 c.args.at _ (sym c.check.ensures ∙ c.in_err-check.was)).1

pub returns-then-not-all_named-clause-value : goal.returns-then-not-all_named-clause-value
returns-then-not-all_named-clause-value c =
    (unnamed _ (fine (goal.at.returns-then-not-all_named-clause-value c).After-tables_known) c.args.n c.args.e.0 c.args.v.0 c.args.at (rw c.counts_in-counts.ensures at (sym c.all_named.ensures ∙ c.if-not-all_named.true))).0

pub returns-then-not-all_named-clause-spans_after : goal.returns-then-not-all_named-clause-spans_after
returns-then-not-all_named-clause-spans_after c =
    (unnamed _ (fine (goal.at.returns-then-not-all_named-clause-spans_after c).After-tables_known) c.args.n c.args.e.0 c.args.v.0 c.args.at (rw c.counts_in-counts.ensures at (sym c.all_named.ensures ∙ c.if-not-all_named.true))).1

pub cut_named-requires-clause-spans_value : goal.cut_named-requires-clause-spans_value
cut_named-requires-clause-spans_value c =
    (fine (goal.at.cut_named-requires-clause-spans_value c).After-tables_known).ok

pub cut_named-requires-clause-n_bound : goal.cut_named-requires-clause-n_bound
cut_named-requires-clause-n_bound c =
    names _ (fine (goal.at.cut_named-requires-clause-n_bound c).After-tables_known) c.args.n c.args.e.0 c.args.v.0 c.args.at (rw c.counts_in-counts.ensures at (sym c.all_named.ensures ∙ c.if-not-all_named.false))
