use mathlib.Core.Path.{◌∙◌, ap}
use Rattle.lists.specs.Lists.{flat}
use Rattle.draft_parts.proofs.Added.{face_added, face_room}
use Rattle.draft_parts.proofs.Counts.{rest_whole}
use Rattle.draft_parts.specs.Parts.{wires_of}
use Rattle.store.proofs.View.{held_seven}
use Rattle.store.specs.Store.{held}
use Rattle.words.specs.Words.{short}
use Prim.Native.Nat.{◌≤◌, ◌<◌, ◌+◌}
use lib.ListN.{length, get_or}
use mathlib.Core.Path.{◌≡◌}
use borrow.Author.Rules.{rules}
use Rattle.draft_parts.proofs.add_face.Goals as goal
use Rattle.draft_parts.proofs.add_face.Goals.{After-add_wires-more, After-counts_in-counts}

room : (c : After-counts_in-counts) → (get_or c.counts_in-counts.result 2 0 + length (flat (wires_of c.args.v.now)) ≤ 4096) × (get_or c.counts_in-counts.result 3 0 + length (wires_of c.args.v.now) ≤ 1024) × (get_or c.counts_in-counts.result 4 0 < 256)
room c =
    face_room c.counts_in-counts.result c.args.v.now (rw c.counts_in-counts.ensures c.requires.1)

-- how many uses and wires there are
many : (c : After-add_wires-more) → (c.add_wires-more.result.uses ≡ length (flat (wires_of c.args.v.now))) × (c.add_wires-more.result.wires ≡ length (wires_of c.args.v.now))
many c =
    let w = rest_whole c.args.v.now 3 in (rw w at c.add_wires-more.ensures.0, rw w at c.add_wires-more.ensures.1)

pub add_wires-more-requires : goal.add_wires-more-requires
add_wires-more-requires c =
    let r = (room (goal.at.add_wires-more-requires c).After-counts_in-counts) in rw (rest_whole c.args.v.now 3) (r.0, r.1)

pub store_face-requires : goal.store_face-requires
store_face-requires c =
    (room (goal.at.store_face-requires c).After-counts_in-counts).2

pub overflow_add-n : goal.overflow_add-n
overflow_add-n c =
    let r = (room (goal.at.overflow_add-n c).After-counts_in-counts) in search rules

pub overflow_cast-n : goal.overflow_cast-n
overflow_cast-n c =
    let r = (room (goal.at.overflow_cast-n c).After-counts_in-counts) in search rules

pub overflow_add-counts : goal.overflow_add-counts
overflow_add-counts c =
    let r = (room (goal.at.overflow_add-counts c).After-counts_in-counts) in let m = (many (goal.at.overflow_add-counts c).After-add_wires-more) in search rules

pub overflow_cast-counts : goal.overflow_cast-counts
overflow_cast-counts c =
    let r = (room (goal.at.overflow_cast-counts c).After-counts_in-counts) in let m = (many (goal.at.overflow_cast-counts c).After-add_wires-more) in search rules

pub overflow_add-counts-2 : goal.overflow_add-counts-2
overflow_add-counts-2 c =
    let r = (room (goal.at.overflow_add-counts-2 c).After-counts_in-counts) in let m = (many (goal.at.overflow_add-counts-2 c).After-add_wires-more) in search rules

pub overflow_cast-counts-2 : goal.overflow_cast-counts-2
overflow_cast-counts-2 c =
    let r = (room (goal.at.overflow_cast-counts-2 c).After-counts_in-counts) in let m = (many (goal.at.overflow_cast-counts-2 c).After-add_wires-more) in search rules

pub returns : goal.returns
returns c =
    let t = c.args.t.now in
    let v = c.args.v.now in
    let m = (many (goal.at.returns c).After-add_wires-more) in
    λ spans. face_added (held t spans) v c.counts_in-counts.result (held_seven t spans c.tables_known-n.ensures) c.counts_in-counts.ensures _ _ _ _ _ _ _ _ m.0 m.1
    (λ i. record { wires = (c.small_length.ensures ∙ ap short m.1) i; surface = c.saturated.ensures i })
    (rw (rest_whole v 3) at (c.add_wires-more.ensures.2 spans))
    (c.store_face.ensures spans) (c.store_count.ensures spans) (c.store_count-2.ensures spans) (c.store_count-3.ensures spans)
