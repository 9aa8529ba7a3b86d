use native.Mathlib.Omega.{arith}
use mathlib.Core.Path.{ap, sym, ◌∙◌, ◌≡◌}
use Rattle.errors.proofs.Laws.{accepted_none, handed_on}
use Rattle.pattern.proofs.Counts.{edges_counted}
use Rattle.pattern.specs.Checks.{pattern_faults}
use Rattle.pattern.specs.Contents.{Pattern, content}
use Rattle.shell_edits.proofs.ConcatTheorem.{concat_pattern_accepted}
use Rattle.shell_edits.specs.Edits.{concat_content, concat_faults, joined_edge}
use Rattle.shell_wires.proofs.Facts.{Fine}
use Rattle.shell_wires.proofs.Held.{held_fine}
use Rattle.std.specs.Prelude.{Ok}
use Rattle.store.specs.Store.{held}
use Rattle.concat.proofs.Judged.{concat_room, joint_none}
use Rattle.concat.proofs.Stored.{join_done, join_not, join_refused, joint_whole, next_is, stored_appended}
use Rattle.concat.specs.Joins.{appended, joint}
use Rattle.concat.proofs.concat.Goals as goal
use Rattle.concat.proofs.concat.Goals.{After-append_edge, In_ok-check}

good : (c : In_ok-check) → Fine (held c.args.t.now c.args.spans.now)
good c =
    held_fine c.args.t.now c.args.spans.now c.tables_known.ensures (accepted_none _ (sym c.check.ensures ∙ c.in_ok-check.was))

pub returns-in_err-check-clause-value : goal.returns-in_err-check-clause-value
returns-in_err-check-clause-value c =
    let k = content (held c.args.t.now c.args.spans.now) in
    handed_on _ _ c.from_residual.ensures.1 ∙ (join_refused _ (concat_faults k c.args.u c.args.v) (concat_content k c.args.u c.args.v) (sym c.check.ensures ∙ c.in_err-check.was)).0

pub returns-in_err-check-clause-spans_after : goal.returns-in_err-check-clause-spans_after
returns-in_err-check-clause-spans_after c =
    let k = content (held c.args.t.now c.args.spans.now) in
    (join_refused _ (concat_faults k c.args.u c.args.v) (concat_content k c.args.u c.args.v) (sym c.check.ensures ∙ c.in_err-check.was)).1

pub concat_uses-requires : goal.concat_uses-requires
concat_uses-requires c =
    (good c).ok

pub returns-in_err-d-clause-value : goal.returns-in_err-d-clause-value
returns-in_err-d-clause-value c =
    let k = content (held c.args.t.now c.args.spans.now) in
    let s = good (goal.at.returns-in_err-d-clause-value c).In_ok-check in
    handed_on _ _ c.from_residual-in_err-d.ensures.1 ∙ (join_not _ (concat_faults k c.args.u c.args.v) (concat_content k c.args.u c.args.v) s.ok (joined_edge k c.args.u c.args.v) (sym c.concat_uses.ensures ∙ c.in_err-d.was)).0

pub returns-in_err-d-clause-spans_after : goal.returns-in_err-d-clause-spans_after
returns-in_err-d-clause-spans_after c =
    let k = content (held c.args.t.now c.args.spans.now) in
    let s = good (goal.at.returns-in_err-d-clause-spans_after c).In_ok-check in
    (join_not _ (concat_faults k c.args.u c.args.v) (concat_content k c.args.u c.args.v) s.ok (joined_edge k c.args.u c.args.v) (sym c.concat_uses.ensures ∙ c.in_err-d.was)).1

pub append_edge-requires : goal.append_edge-requires
append_edge-requires c =
    let k = content (held c.args.t.now c.args.spans.now) in
    let s = good (goal.at.append_edge-requires c).In_ok-check in
    omega (arith, edges_counted _ s.limits s.full, concat_room k c.args.u c.args.v (joined_edge k c.args.u c.args.v) (sym c.concat_uses.ensures ∙ c.in_ok-d.was))

pub returns-clause-value : goal.returns-clause-value
returns-clause-value c =
    let k = content (held c.args.t.now c.args.spans.now) in
    let s = good (goal.at.returns-clause-value c).In_ok-check in
    let es = concat_faults k c.args.u c.args.v in
    ap Ok (next_is _ s c.append_edge.ensures.result_value) ∙ (join_done _ es (concat_content k c.args.u c.args.v) s.ok (joint_none es (joined_edge k c.args.u c.args.v) (sym c.concat_uses.ensures ∙ c.in_ok-d.was))).0

pub returns-clause-spans_after : goal.returns-clause-spans_after
returns-clause-spans_after c =
    let p : Pattern = held c.args.t.now c.args.spans.now in
    let k = content p in
    let s = good (goal.at.returns-clause-spans_after c).In_ok-check in
    let es = concat_faults k c.args.u c.args.v in
    let d = joined_edge k c.args.u c.args.v in
    let made : joint es d ≡ Ok c.in_ok-d.d = sym c.concat_uses.ensures ∙ c.in_ok-d.was in
    c.append_edge.ensures.spans_after ∙ ap (appended p) (joint_whole es d made) ∙ stored_appended p s d ∙ (join_done p es (concat_content k c.args.u c.args.v) s.ok (joint_none es d made)).1

pub returns-clause-spans_after_2 : goal.returns-clause-spans_after_2
returns-clause-spans_after_2 c =
    let s = good (goal.at.returns-clause-spans_after_2 c).In_ok-check in
    λ fine. ap pattern_faults (returns-clause-spans_after c) ∙ concat_pattern_accepted _ s.full c.args.u c.args.v fine
