use lib.ListN.{length-set}
use mathlib.Core.List.{[], ◌∷◌, map}
use lib.ListN.{length-map, length-drop}
use Rattle.words.specs.Words.{short}
use Rattle.draft_parts.proofs.Filling.{listings_stored}
use Rattle.draft_parts.proofs.Added.{shell_added, shell_room}
use Rattle.draft_parts.proofs.Counts.{rest_whole}
use Rattle.store.proofs.View.{held_seven, held_shells}
use Rattle.store.specs.Store.{held}
use native.Mathlib.Omega.{arith}
use Prim.Native.Nat.{◌≤◌, ◌<◌, ◌+◌, ◌-◌}
use lib.ListN.{length, get_or, drop}
use borrow.Author.Rules.{rules}
use Rattle.draft_parts.proofs.add_shell.Goals as goal
use Rattle.draft_parts.proofs.add_shell.Goals.{After-counts_in-counts}

room : (c : After-counts_in-counts) → (get_or c.counts_in-counts.result 5 0 < 16) × (get_or c.counts_in-counts.result 6 0 + (length c.args.v.now - 2) ≤ 512)
room c =
    shell_room c.counts_in-counts.result c.args.v.now (rw c.counts_in-counts.ensures c.requires.1)

pub overflow_add-t : goal.overflow_add-t
overflow_add-t c =
    let r = (room (goal.at.overflow_add-t c).After-counts_in-counts) in search rules

pub offset_bounds-t-n : goal.offset_bounds-t-n
offset_bounds-t-n c =
    let r = (room (goal.at.offset_bounds-t-n c).After-counts_in-counts) in search rules

pub bounds-t-n : goal.bounds-t-n
bounds-t-n c =
    let r = (room (goal.at.bounds-t-n c).After-counts_in-counts) in search rules

pub overflow_add-counts : goal.overflow_add-counts
overflow_add-counts c =
    let r = (room (goal.at.overflow_add-counts c).After-counts_in-counts) in search rules

pub put_saturated-requires : goal.put_saturated-requires
put_saturated-requires c =
    let r = (room (goal.at.put_saturated-requires c).After-counts_in-counts) in
    let long = c.tables_known-n.ensures in
    rw (rest_whole c.args.v.now 2) (omega (arith, length-drop 2 c.args.v.now, length-set c.args.t.now (7688 + get_or c.counts_in-counts.result 5 0) c.small_length.result))

pub overflow_add-n : goal.overflow_add-n
overflow_add-n c =
    let r = (room (goal.at.overflow_add-n c).After-counts_in-counts) in search rules

pub overflow_cast-n : goal.overflow_cast-n
overflow_cast-n c =
    let r = (room (goal.at.overflow_cast-n c).After-counts_in-counts) in search rules

pub overflow_add-counts-2 : goal.overflow_add-counts-2
overflow_add-counts-2 c =
    let r = (room (goal.at.overflow_add-counts-2 c).After-counts_in-counts) in search rules

pub overflow_cast-counts : goal.overflow_cast-counts
overflow_cast-counts c =
    let r = (room (goal.at.overflow_cast-counts c).After-counts_in-counts) in search rules

pub returns : goal.returns
returns c =
    let t = c.args.t.now in
    let v = c.args.v.now in
    let ns = c.counts_in-counts.result in
    let long = c.tables_known-n.ensures in
    let r = (room (goal.at.returns c).After-counts_in-counts) in
    λ spans. shell_added (held t spans) v ns (held_seven t spans long) c.counts_in-counts.ensures _ _ _ _ _ c.requires.0 c.small_length.ensures
    (held_shells t spans long (get_or ns 5 0) (c.small_length.result ∷ []) (omega arith))
    (listings_stored t _ spans (7688 + get_or ns 5 0) c.small_length.result (get_or ns 6 0) (map short (drop 2 v)) long (omega (arith, length-map (drop 2 v) short, length-drop 2 v)) (rw (rest_whole v 2) at c.put_saturated.ensures))
    (c.store_count.ensures spans) (c.store_count-2.ensures spans)
