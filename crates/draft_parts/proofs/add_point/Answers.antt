use Rattle.draft_parts.proofs.Added.{point_added, point_room}
use Rattle.store.proofs.View.{held_seven}
use Rattle.store.specs.Store.{held}
use Prim.Native.Nat.{◌<◌}
use lib.ListN.{get_or}
use borrow.Author.Rules.{rules}
use Rattle.draft_parts.proofs.add_point.Goals as goal

pub store_label-requires : goal.store_label-requires
store_label-requires c = let room : get_or c.counts_in-counts.result 0 0 < 2048 = point_room c.counts_in-counts.result c.args.v.now (rw c.counts_in-counts.ensures c.requires.1) in
    room

pub overflow_add-n : goal.overflow_add-n
overflow_add-n c = let room : get_or c.counts_in-counts.result 0 0 < 2048 = point_room c.counts_in-counts.result c.args.v.now (rw c.counts_in-counts.ensures c.requires.1) in
    let r = room in search rules

pub overflow_cast-n : goal.overflow_cast-n
overflow_cast-n c = let room : get_or c.counts_in-counts.result 0 0 < 2048 = point_room c.counts_in-counts.result c.args.v.now (rw c.counts_in-counts.ensures c.requires.1) in
    let r = room in search rules

pub returns : goal.returns
returns c = λ spans. point_added (held c.args.t.now spans) c.args.v.now c.counts_in-counts.result (held_seven c.args.t.now spans c.tables_known-n.ensures) c.counts_in-counts.ensures _ _ _ c.label_of.ensures (c.store_label.ensures spans) (c.store_count.ensures spans)
