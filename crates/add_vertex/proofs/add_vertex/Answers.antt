use native.Mathlib.Omega.{arith}
use Prim.Native.Nat.{ℕ}
use lib.ListN.{get_or}
use mathlib.Core.List.{List}
use mathlib.Core.Path.{ap, refl, sym, ◌∙◌, ◌≡◌}
use Rattle.errors.proofs.Laws.{accepted_none, handed_on}
use Rattle.shell_wires.proofs.Facts.{Fine}
use Rattle.shell_wires.proofs.Held.{held_fine}
use Rattle.store.specs.Store.{count_table, held}
use Rattle.add_vertex.proofs.Stored.{vertex_added, vertex_full, vertex_unnamed, vertex_unread}
use Rattle.add_vertex.proofs.add_vertex.Goals as goal
use Rattle.add_vertex.proofs.add_vertex.Goals.{After-counts_in-counts, In_ok-check}

good : (c : In_ok-check) → Fine (held c.args.t.now c.args.spans.now)
good c =
    held_fine c.args.t.now c.args.spans.now c.tables_known-n.ensures (accepted_none _ (sym c.check.ensures ∙ c.in_ok-check.was))

count : (c : After-counts_in-counts) → get_or c.counts_in-counts.result 0 0 ≡ get_or (count_table c.args.t.now) 0 0
count c =
    ap (λ (ns : List ℕ). get_or ns 0 0) c.counts_in-counts.ensures

pub returns-in_err-check-clause-value : goal.returns-in_err-check-clause-value
returns-in_err-check-clause-value c =
    handed_on _ _ c.from_residual.ensures.1 ∙ (vertex_unread _ c.args.label (sym c.check.ensures ∙ c.in_err-check.was)).0

pub returns-in_err-check-clause-spans_after : goal.returns-in_err-check-clause-spans_after
returns-in_err-check-clause-spans_after c =
    (vertex_unread _ c.args.label (sym c.check.ensures ∙ c.in_err-check.was)).1.0

pub returns-then-label-ge4294967296-clause-value : goal.returns-then-label-ge4294967296-clause-value
returns-then-label-ge4294967296-clause-value c =
    (vertex_unnamed _ (good (goal.at.returns-then-label-ge4294967296-clause-value c).In_ok-check) c.args.label c.if-label-ge4294967296.true).0

pub returns-then-label-ge4294967296-clause-spans_after : goal.returns-then-label-ge4294967296-clause-spans_after
returns-then-label-ge4294967296-clause-spans_after c =
    (vertex_unnamed _ (good (goal.at.returns-then-label-ge4294967296-clause-spans_after c).In_ok-check) c.args.label c.if-label-ge4294967296.true).1.0

pub returns-then-n-ge2048-clause-value : goal.returns-then-n-ge2048-clause-value
returns-then-n-ge2048-clause-value c =
    let l = goal.at.returns-then-n-ge2048-clause-value c in
    (vertex_full _ (good l.In_ok-check) c.args.label c.if-label-ge4294967296.false (omega (arith, count l.After-counts_in-counts, c.if-n-ge2048.true))).0

pub returns-then-n-ge2048-clause-spans_after : goal.returns-then-n-ge2048-clause-spans_after
returns-then-n-ge2048-clause-spans_after c =
    let l = goal.at.returns-then-n-ge2048-clause-spans_after c in
    (vertex_full _ (good l.In_ok-check) c.args.label c.if-label-ge4294967296.false (omega (arith, count l.After-counts_in-counts, c.if-n-ge2048.true))).1.0

pub returns-clause-value : goal.returns-clause-value
returns-clause-value c =
    let l = goal.at.returns-clause-value c in
    let n = count l.After-counts_in-counts in
    (vertex_added _ (good l.In_ok-check) c.args.label c.if-label-ge4294967296.false (omega (arith, n, c.if-n-ge2048.false)) _ _ _ _ n refl (c.store_label.ensures c.args.spans.now) (c.store_count.ensures c.args.spans.now)).0

pub returns-clause-spans_after : goal.returns-clause-spans_after
returns-clause-spans_after c =
    let l = goal.at.returns-clause-spans_after c in
    let n = count l.After-counts_in-counts in
    (vertex_added _ (good l.In_ok-check) c.args.label c.if-label-ge4294967296.false (omega (arith, n, c.if-n-ge2048.false)) _ _ _ _ n refl (c.store_label.ensures c.args.spans.now) (c.store_count.ensures c.args.spans.now)).1.0

pub returns-clause-spans_after_2 : goal.returns-clause-spans_after_2
returns-clause-spans_after_2 c =
    let l = goal.at.returns-clause-spans_after_2 c in
    let n = count l.After-counts_in-counts in
    (vertex_added _ (good l.In_ok-check) c.args.label c.if-label-ge4294967296.false (omega (arith, n, c.if-n-ge2048.false)) _ _ _ _ n refl (c.store_label.ensures c.args.spans.now) (c.store_count.ensures c.args.spans.now)).1.1
