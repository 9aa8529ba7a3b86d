use Rattle.errors.proofs.Laws.{handed_on}
use Rattle.std.specs.Prelude.{Ok}
use native.Mathlib.Omega.{arith}
use lib.ListN.{length}
use mathlib.Core.Path.{◌≡◌, ◌∙◌, ap, sym}
use Rattle.cut_edge.proofs.Store.{Here, Sound, accepted_answer, accepted_pattern, accepted_room, held_after, held_edge_at, held_judged, held_refused, sound_counts, sound_fine}
use Rattle.curve.specs.Curves.{cut_curve}
use Rattle.cut_edge_faults.specs.Judgement.{judgement}
use Rattle.pattern.proofs.Counts.{shells_counted}
use Rattle.pattern.specs.Checks.{pattern_faults}
use Rattle.pattern.specs.Contents.{Pattern, content}
use Rattle.shell_edits.specs.Edits.{cut_faults, edge_at}
use Rattle.shell_wires.proofs.Held.{held_lent}
use Rattle.shell_wires.proofs.Made.{edges_few, uses_few, uses_name, wires_few, wires_summed_lem}
use Rattle.shell_wires.specs.Lent.{Lent}
use Rattle.shell_wires.specs.ShellWires.{marks_of}
use Rattle.store.specs.Store.{edge_in, held}
use borrow.Author.Rules.{rules}
use Rattle.cut_edge.proofs.cut_named.Goals as goal
use Rattle.cut_edge.proofs.cut_named.Goals.{After-edge_in-d, After-judge_cut, After-lists_in-lists, After-mark_wires-marks, After-tables_known, Start}

abbrev P : Start → Pattern
P c = held c.args.t.now c.args.spans.now

sound : (c : After-tables_known) → Sound c.args.t.now c.args.spans.now
sound c = record { long = c.tables_known.ensures; ok = c.requires.spans_value }

here : (c : Start) → Here c.args.t.now c.args.n c.args.e.0 c.args.v.0
here c = record { shell = c.requires.n_bound.0; edge = c.requires.n_bound.1; vertex = c.requires.n_bound.2 }

lent : (c : After-lists_in-lists) → Lent (held c.args.t.now c.args.spans.now) c.lists_in-lists.result
lent c = let e = c.lists_in-lists.ensures in
    held_lent c.args.t.now c.args.spans.now c.tables_known.ensures c.requires.spans_value e.ends e.uses e.wires e.faces e.shells e.listings

marked : (c : After-mark_wires-marks) → Lent (held c.args.t.now c.args.spans.now) c.lists_in-lists.result → c.mark_wires-marks.result ≡ marks_of (held c.args.t.now c.args.spans.now) c.args.n
marked c l = c.mark_wires-marks.ensures (held c.args.t.now c.args.spans.now) l.listed

marks_long : (c : After-mark_wires-marks) → length c.mark_wires-marks.result.wires ≡ 1024
marks_long c = search rules

-- what the judgement says
module _ (c : After-judge_cut) (s : Sound c.args.t.now c.args.spans.now) (h : Here c.args.t.now c.args.n c.args.e.0 c.args.v.0) (l : Lent (held c.args.t.now c.args.spans.now) c.lists_in-lists.result) where
  judged_is : c.judge_cut.result ≡ judgement (cut_faults (content (held c.args.t.now c.args.spans.now)) c.args.n c.args.e.0 c.args.v.0 c.args.at) (cut_curve (edge_at (content (held c.args.t.now c.args.spans.now)) c.args.e.0).curve c.args.at)
  judged_is =
      let edge_is : c.edge_in-d.result ≡ edge_at (content (held c.args.t.now c.args.spans.now)) c.args.e.0 = c.edge_in-d.ensures ∙ ap (edge_in c.args.t.now c.args.spans.now) c.from.ensures ∙ held_edge_at s c.args.e.0 c.requires.n_bound.1 in
      held_judged s c.args.at h (c.mark_wires-marks.ensures (held c.args.t.now c.args.spans.now) l.listed) l edge_is c.cut_curve.ensures c.judge_cut.ensures

pub lists_in-lists-requires : goal.lists_in-lists-requires
lists_in-lists-requires c = sound_counts (sound (goal.at.lists_in-lists-requires c).After-tables_known)

pub mark_wires-marks-requires-clause-listed : goal.mark_wires-marks-requires-clause-listed
mark_wires-marks-requires-clause-listed c = let l = goal.at.mark_wires-marks-requires-clause-listed c in (P l.Start, (lent l.After-lists_in-lists).listed)

pub mark_wires-marks-requires-clause-n_bound : goal.mark_wires-marks-requires-clause-n_bound
mark_wires-marks-requires-clause-n_bound c = let l = goal.at.mark_wires-marks-requires-clause-n_bound c in
    let s = sound_fine (sound l.After-tables_known) in
    rw (lent l.After-lists_in-lists).listed.shells_are (omega (arith, shells_counted (P l.Start) s.limits s.full, c.requires.n_bound.0))

pub invariant_of-wires : goal.invariant_of-wires
invariant_of-wires c = record { named = uses_name _ (lent (goal.at.invariant_of-wires c).After-lists_in-lists) }

pub edge_in-d-requires : goal.edge_in-d-requires
edge_in-d-requires c = omega (arith, c.from.ensures, c.requires.n_bound.1, (sound_fine (sound (goal.at.edge_in-d-requires c).After-tables_known)).limits.edges)

pub judge_cut-requires-clause-lens_value : goal.judge_cut-requires-clause-lens_value
judge_cut-requires-clause-lens_value c = let l = goal.at.judge_cut-requires-clause-lens_value c in
    let lists = lent l.After-lists_in-lists in
    (wires_summed_lem _ lists, omega (arith, wires_few _ lists, marks_long l.After-mark_wires-marks))

pub judge_cut-requires-clause-in_bounds : goal.judge_cut-requires-clause-in_bounds
judge_cut-requires-clause-in_bounds c = let lists = lent (goal.at.judge_cut-requires-clause-in_bounds c).After-lists_in-lists in
    (wires_few _ lists, uses_few _ lists, (edges_few _ lists).1)

pub store_cut-requires-clause-spans_value : goal.store_cut-requires-clause-spans_value
store_cut-requires-clause-spans_value c =
    (c.requires.spans_value, c.requires.n_bound.1, c.requires.n_bound.2, (marks_long (goal.at.store_cut-requires-clause-spans_value c).After-mark_wires-marks))

pub store_cut-requires-clause-t_bound : goal.store_cut-requires-clause-t_bound
store_cut-requires-clause-t_bound c =
    let l = goal.at.store_cut-requires-clause-t_bound c in
    accepted_room (sound l.After-tables_known) c.args.at (here l.Start) (marked l.After-mark_wires-marks (lent l.After-lists_in-lists)) (sym (judged_is l.After-judge_cut (sound l.After-tables_known) (here l.Start) (lent l.After-lists_in-lists)) ∙ c.in_ok-k.was)

pub returns-in_err-k-clause-value : goal.returns-in_err-k-clause-value
returns-in_err-k-clause-value c =
    let l = goal.at.returns-in_err-k-clause-value c in
    handed_on _ _ c.from_residual.ensures.1 ∙ (held_refused (sound l.After-tables_known) c.args.at (here l.Start) (sym (judged_is l.After-judge_cut (sound l.After-tables_known) (here l.Start) (lent l.After-lists_in-lists)) ∙ c.in_err-k.was)).0

pub returns-in_err-k-clause-spans_after : goal.returns-in_err-k-clause-spans_after
returns-in_err-k-clause-spans_after c =
    let l = goal.at.returns-in_err-k-clause-spans_after c in
    (held_refused (sound l.After-tables_known) c.args.at (here l.Start) (sym (judged_is l.After-judge_cut (sound l.After-tables_known) (here l.Start) (lent l.After-lists_in-lists)) ∙ c.in_err-k.was)).1

pub returns-clause-value : goal.returns-clause-value
returns-clause-value c =
    let l = goal.at.returns-clause-value c in
    ap Ok c.store_cut.ensures.value ∙ accepted_answer (sound l.After-tables_known) c.args.at (here l.Start) (marked l.After-mark_wires-marks (lent l.After-lists_in-lists)) (sym (judged_is l.After-judge_cut (sound l.After-tables_known) (here l.Start) (lent l.After-lists_in-lists)) ∙ c.in_ok-k.was)

pub returns-clause-spans_after : goal.returns-clause-spans_after
returns-clause-spans_after c =
    let l = goal.at.returns-clause-spans_after c in
    c.store_cut.ensures.spans_after ∙ accepted_pattern (sound l.After-tables_known) c.args.at (here l.Start) (marked l.After-mark_wires-marks (lent l.After-lists_in-lists)) (sym (judged_is l.After-judge_cut (sound l.After-tables_known) (here l.Start) (lent l.After-lists_in-lists)) ∙ c.in_ok-k.was)

pub returns-clause-spans_after_2 : goal.returns-clause-spans_after_2
returns-clause-spans_after_2 c =
    let l = goal.at.returns-clause-spans_after_2 c in
    ap pattern_faults (returns-clause-spans_after c) ∙ held_after (sound l.After-tables_known) c.args.at (here l.Start)
