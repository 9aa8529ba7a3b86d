use native.Mathlib.Omega.{arith}
use Prim.Native.Nat.{◌<◌}
use lib.ListN.{get_or, length}
use mathlib.Core.Path.{sym, ◌∙◌, ◌≡◌}
use Rattle.concat.proofs.Stored.{held_edge_of}
use Rattle.edge.specs.Uses.{edge_number}
use Rattle.errors.proofs.Laws.{handed_on}
use Rattle.pattern.proofs.Counts.{edges_counted, points_counted}
use Rattle.pattern.specs.Contents.{content}
use Rattle.shell_wires.proofs.Facts.{Fine}
use Rattle.shell_wires.proofs.Held.{held_counts, held_fine, held_lent}
use Rattle.shell_wires.proofs.Made.{edges_few}
use Rattle.shell_wires.specs.Lent.{Lent}
use Rattle.store.specs.Store.{count_table, held}
use Rattle.remove_vertex.proofs.Removals.{of_edges}
use Rattle.remove_vertex.proofs.Stored.{pair_refused, pair_removed}
use Rattle.remove_vertex.proofs.judge_removal.Goals as goal
use Rattle.remove_vertex.proofs.judge_removal.Goals.{After-counts_in-counts, After-lists_in-lists, After-tables_known, In_ok-e}

good : (c : After-tables_known) → Fine (held c.args.t.now c.args.spans.now)
good c =
    held_fine c.args.t.now c.args.spans.now c.tables_known.ensures c.requires

lent : (c : After-lists_in-lists) → Lent (held c.args.t.now c.args.spans.now) c.lists_in-lists.result
lent c =
    let e = c.lists_in-lists.ensures in
    held_lent c.args.t.now c.args.spans.now c.tables_known.ensures c.requires e.ends e.uses e.wires e.faces e.shells e.listings

-- the pair is of the edges
inside : (c : In_ok-e) → Lent (held c.args.t.now c.args.spans.now) c.lists_in-lists.result → Fine (held c.args.t.now c.args.spans.now)
    → (edge_number c.in_ok-e.k.ending < get_or (count_table c.args.t.now) 1 0) × (edge_number c.in_ok-e.k.next < get_or (count_table c.args.t.now) 1 0)
inside c l s =
    let p = held c.args.t.now c.args.spans.now in
    let long : length c.lists_in-lists.result.ends.fronts.now ≡ get_or (count_table c.args.t.now) 1 0 = (edges_few p l).0 ∙ edges_counted p s.limits s.full in
    rw long at (of_edges (length c.lists_in-lists.result.ends.fronts.now) c.in_ok-e.was c.find_pair.ensures.of_edges)

-- the number of points as it is read
points : (c : After-counts_in-counts) → Fine (held c.args.t.now c.args.spans.now) → get_or c.counts_in-counts.result 0 0 ≡ length (content (held c.args.t.now c.args.spans.now)).points
points c s = rw c.counts_in-counts.ensures (sym (points_counted (held c.args.t.now c.args.spans.now) s.limits s.full))

pub lists_in-lists-requires : goal.lists_in-lists-requires
lists_in-lists-requires c = held_counts c.args.t.now c.args.spans.now c.tables_known.ensures c.requires

pub find_pair-requires : goal.find_pair-requires
find_pair-requires c = (held c.args.t.now c.args.spans.now, lent (goal.at.find_pair-requires c).After-lists_in-lists)

pub edge_in-a-requires : goal.edge_in-a-requires
edge_in-a-requires c =
    let l = goal.at.edge_in-a-requires c in
    let s = good l.After-tables_known in
    omega (arith, (inside l.In_ok-e (lent l.After-lists_in-lists) s).0, s.limits.edges, c.from.ensures)

pub edge_in-b-requires : goal.edge_in-b-requires
edge_in-b-requires c =
    let l = goal.at.edge_in-b-requires c in
    let s = good l.After-tables_known in
    omega (arith, (inside l.In_ok-e (lent l.After-lists_in-lists) s).1, s.limits.edges, c.from-2.ensures)

pub returns-in_err-e : goal.returns-in_err-e
returns-in_err-e c =
    let l = goal.at.returns-in_err-e c in
    handed_on _ _ c.from_residual.ensures.1 ∙ pair_refused (content (held c.args.t.now c.args.spans.now)) c.args.n c.args.v.0 (sym c.in_err-e.was ∙ c.find_pair.ensures.value _ (lent l.After-lists_in-lists) (points l.After-counts_in-counts (good l.After-tables_known)))

pub returns : goal.returns
returns c =
    let l = goal.at.returns c in
    let s = good l.After-tables_known in
    let i = inside l.In_ok-e (lent l.After-lists_in-lists) s in
    let t = c.args.t.now in
    let spans = c.args.spans.now in
    let p = held t spans in
    pair_removed (content p) c.args.n c.args.v.0 _ _ _ (edges_counted p s.limits s.full ∙ rw c.counts_in-counts.ensures) (sym c.in_ok-e.was ∙ c.find_pair.ensures.value _ (lent l.After-lists_in-lists) (points l.After-counts_in-counts s))
    (c.edge_in-a.ensures ∙ held_edge_of t spans s _ _ c.from.ensures i.0)
    (c.edge_in-b.ensures ∙ held_edge_of t spans s _ _ c.from-2.ensures i.1) c.join_pair.ensures
