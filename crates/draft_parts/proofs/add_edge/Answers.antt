use Rattle.draft_parts.proofs.Added.{edge_added, edge_room}
use Rattle.store.proofs.View.{held_seven}
use Rattle.store.specs.Store.{held}
use Prim.Native.Nat.{◌<◌}
use lib.ListN.{get_or}
use borrow.Author.Rules.{rules}
use Rattle.draft_parts.proofs.add_edge.Goals as goal

pub store_edge-requires : goal.store_edge-requires
store_edge-requires c = let room : get_or c.counts_in-counts.result 1 0 < 1024 = edge_room c.counts_in-counts.result c.args.v.now (rw c.counts_in-counts.ensures c.requires.1) in
    room

pub overflow_add-n : goal.overflow_add-n
overflow_add-n c = let room : get_or c.counts_in-counts.result 1 0 < 1024 = edge_room c.counts_in-counts.result c.args.v.now (rw c.counts_in-counts.ensures c.requires.1) in
    let r = room in search rules

pub overflow_cast-n : goal.overflow_cast-n
overflow_cast-n c = let room : get_or c.counts_in-counts.result 1 0 < 1024 = edge_room c.counts_in-counts.result c.args.v.now (rw c.counts_in-counts.ensures c.requires.1) in
    let r = room in search rules

pub returns : goal.returns
returns c = edge_added (held c.args.t.now c.args.spans.now) c.args.v.now c.counts_in-counts.result (held_seven c.args.t.now c.args.spans.now c.tables_known-n.ensures) c.counts_in-counts.ensures _ _ _ c.edge_of.ensures c.store_edge.ensures (c.store_count.ensures c.store_edge.new.spans)
