use native.Mathlib.Omega.{arith}
use mathlib.Core.List.{[]}
use mathlib.Core.Path.{ap, sym, ◌∙◌, ◌≡◌}
use Rattle.concat.proofs.Stored.{join_done, join_not, join_refused, next_is}
use Rattle.errors.proofs.Laws.{accepted_none, handed_on}
use Rattle.pattern.proofs.Counts.{edges_counted}
use Rattle.pattern.specs.Checks.{pattern_faults}
use Rattle.pattern.specs.Contents.{content}
use Rattle.remove_vertex_corners.specs.Endings.{ending_of}
use Rattle.remove_vertex_corners.specs.declared.Ending.{Ending}
use Rattle.shell_edits.proofs.RemoveTheorem.{remove_pattern_accepted}
use Rattle.shell_edits.specs.Edits.{ending_wires, remove_content, remove_faults}
use Rattle.shell_wires.proofs.Facts.{Fine}
use Rattle.shell_wires.proofs.Held.{held_fine}
use Rattle.std.specs.Prelude.{Ok}
use Rattle.store.specs.Store.{held}
use Rattle.remove_vertex.proofs.Removals.{joins_whole, not_joint}
use Rattle.remove_vertex.proofs.Stored.{removal_room}
use Rattle.remove_vertex.specs.Removals.{pair_edge, pair_stored}
use Rattle.remove_vertex.proofs.remove_vertex_by_concat_edges.Goals as goal
use Rattle.remove_vertex.proofs.remove_vertex_by_concat_edges.Goals.{In_ok-check, In_ok-d}

good : (c : In_ok-check) → Fine (held c.args.t.now c.args.spans.now)
good c =
    held_fine c.args.t.now c.args.spans.now c.tables_known.ensures (accepted_none _ (sym c.check.ensures ∙ c.in_ok-check.was))

-- nothing is refused, and these are the edge and the wires
joined : (c : In_ok-d)
    → (remove_faults (content (held c.args.t.now c.args.spans.now)) c.args.n c.args.v.0 ≡ [])
    × ((c.in_ok-d.d ≡ pair_edge (content (held c.args.t.now c.args.spans.now)) c.args.v.0 (ending_of (ending_wires (content (held c.args.t.now c.args.spans.now)) c.args.n c.args.v.0)))
    × (c.in_ok-d.e ≡ ending_of (ending_wires (content (held c.args.t.now c.args.spans.now)) c.args.n c.args.v.0)))
joined c =
    let k = content (held c.args.t.now c.args.spans.now) in
    let ends : Ending = ending_of (ending_wires k c.args.n c.args.v.0) in
    joins_whole (remove_faults k c.args.n c.args.v.0) (pair_edge k c.args.v.0 ends) ends (sym c.judge_removal.ensures ∙ c.in_ok-d.was)

pub returns-in_err-check-clause-value : goal.returns-in_err-check-clause-value
returns-in_err-check-clause-value c =
    let k = content (held c.args.t.now c.args.spans.now) in
    handed_on _ _ c.from_residual.ensures.1 ∙ (join_refused _ (remove_faults k c.args.n c.args.v.0) (remove_content k c.args.n c.args.v.0) (sym c.check.ensures ∙ c.in_err-check.was)).0

pub returns-in_err-check-clause-spans_after : goal.returns-in_err-check-clause-spans_after
returns-in_err-check-clause-spans_after c =
    let k = content (held c.args.t.now c.args.spans.now) in
    (join_refused _ (remove_faults k c.args.n c.args.v.0) (remove_content k c.args.n c.args.v.0) (sym c.check.ensures ∙ c.in_err-check.was)).1

pub judge_removal-requires : goal.judge_removal-requires
judge_removal-requires c =
    (good c).ok

pub returns-in_err-d-clause-value : goal.returns-in_err-d-clause-value
returns-in_err-d-clause-value c =
    let k = content (held c.args.t.now c.args.spans.now) in
    let ends : Ending = ending_of (ending_wires k c.args.n c.args.v.0) in
    let es = remove_faults k c.args.n c.args.v.0 in
    let d = pair_edge k c.args.v.0 ends in
    let s = good (goal.at.returns-in_err-d-clause-value c).In_ok-check in
    handed_on _ _ c.from_residual-in_err-d.ensures.1 ∙ (join_not _ es (remove_content k c.args.n c.args.v.0) s.ok d (not_joint es d ends (sym c.judge_removal.ensures ∙ c.in_err-d.was))).0

pub returns-in_err-d-clause-spans_after : goal.returns-in_err-d-clause-spans_after
returns-in_err-d-clause-spans_after c =
    let k = content (held c.args.t.now c.args.spans.now) in
    let ends : Ending = ending_of (ending_wires k c.args.n c.args.v.0) in
    let es = remove_faults k c.args.n c.args.v.0 in
    let d = pair_edge k c.args.v.0 ends in
    let s = good (goal.at.returns-in_err-d-clause-spans_after c).In_ok-check in
    (join_not _ es (remove_content k c.args.n c.args.v.0) s.ok d (not_joint es d ends (sym c.judge_removal.ensures ∙ c.in_err-d.was))).1

pub write_removal-requires-clause-spans_value : goal.write_removal-requires-clause-spans_value
write_removal-requires-clause-spans_value c =
    (good (goal.at.write_removal-requires-clause-spans_value c).In_ok-check).ok

pub write_removal-requires-clause-t_bound : goal.write_removal-requires-clause-t_bound
write_removal-requires-clause-t_bound c =
    let l = goal.at.write_removal-requires-clause-t_bound c in
    let s = good l.In_ok-check in
    omega (arith, edges_counted _ s.limits s.full, removal_room (content (held c.args.t.now c.args.spans.now)) c.args.n c.args.v.0 (joined l.In_ok-d).0)

pub returns-clause-value : goal.returns-clause-value
returns-clause-value c =
    let l = goal.at.returns-clause-value c in
    let k = content (held c.args.t.now c.args.spans.now) in
    let s = good l.In_ok-check in
    ap Ok (next_is _ s c.write_removal.ensures.result_value) ∙ (join_done _ (remove_faults k c.args.n c.args.v.0) (remove_content k c.args.n c.args.v.0) s.ok (joined l.In_ok-d).0).0

pub returns-clause-spans_after : goal.returns-clause-spans_after
returns-clause-spans_after c =
    let l = goal.at.returns-clause-spans_after c in
    let k = content (held c.args.t.now c.args.spans.now) in
    let e = joined l.In_ok-d in
    c.write_removal.ensures.spans_after ∙ (λ i. pair_stored (held c.args.t.now c.args.spans.now) c.args.v.0 (e.1.1 i) (e.1.0 i)) ∙ (join_done _ (remove_faults k c.args.n c.args.v.0) (remove_content k c.args.n c.args.v.0) (good l.In_ok-check).ok e.0).1

pub returns-clause-spans_after_2 : goal.returns-clause-spans_after_2
returns-clause-spans_after_2 c =
    let s = good (goal.at.returns-clause-spans_after_2 c).In_ok-check in
    λ fine. ap pattern_faults (returns-clause-spans_after c) ∙ remove_pattern_accepted _ s.full c.args.n c.args.v.0 fine
