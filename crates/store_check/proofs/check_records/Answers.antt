use Rattle.errors.proofs.Laws.{handed_on}
use Rattle.std.specs.Prelude.{Ok, Err}
use lib.ListN.{get_or, take}
use mathlib.Core.Path.{◌≡◌, ◌∙◌, sym}
use Rattle.errors.specs.Faults.{each, first}
use Rattle.lists.specs.Lists.{tabulate}
use Rattle.pattern.specs.Checks.{edge_faults}
use Rattle.store.specs.Store.{count_table, edge_in}
use Rattle.store_check.proofs.Laws.{edges_wrong, held_checkable, held_checked, held_limits}
use Rattle.store_check.proofs.check_records.Goals as goal
use Rattle.store_check.proofs.check_records.Goals.{In_ok-check_edges}

-- no edge has a fault
right : (c : In_ok-check_edges) → first (each (edge_faults (get_or (count_table c.args.t.now) 0 0)) 0 (take (get_or (count_table c.args.t.now) 1 0) (tabulate 1024 (edge_in c.args.t.now c.args.spans.now)))) ≡ Ok tt
right c = rw c.counts_in-counts.ensures at (sym c.check_edges.ensures ∙ c.in_ok-check_edges.was)

pub check_edges-requires : goal.check_edges-requires
check_edges-requires c = rw c.counts_in-counts.ensures (held_limits c.args.t.now c.args.spans.now c.tables_known.ensures c.requires).edges

pub check-requires : goal.check-requires
check-requires c = let l = c.lists_in.ensures in
    rw (l.ends.0, l.ends.1, l.wires, l.faces, l.shells)
    (held_checkable c.args.t.now c.args.spans.now c.tables_known.ensures c.requires (right (goal.at.check-requires c).In_ok-check_edges))

pub returns-in_err-check_edges : goal.returns-in_err-check_edges
returns-in_err-check_edges c =
    handed_on _ _ c.from_residual.ensures.1 ∙ (edges_wrong c.args.t.now c.args.spans.now c.tables_known.ensures c.requires _ (rw c.counts_in-counts.ensures at (sym c.check_edges.ensures ∙ c.in_err-check_edges.was)))

pub returns : goal.returns
returns c = let l = c.lists_in.ensures in
    c.check.ensures
    ∙ rw (l.ends.0, l.ends.1, l.uses, l.wires, l.faces, l.shells, l.listings)
    (held_checked c.args.t.now c.args.spans.now c.tables_known.ensures c.requires (right (goal.at.returns c).In_ok-check_edges))
