-- Each part is written where the parts before it end.
use native.Mathlib.Omega.{arith}
use Rattle.errors.proofs.Laws.{none_left, none_right}
use Rattle.pattern.specs.Checks.{content_faults, count_faults}
use Rattle.pattern.proofs.Counts.{listings_counted, shells_counted, uses_counted, wires_counted}
use Rattle.pattern.specs.Contents.{content}
use Rattle.store.proofs.View.{held_full, held_seven}
use Rattle.store.specs.Store.{held}
use Rattle.store_write.proofs.Parts.{Ready, Stage, ready_limits, ready_table, span_in, stage_all, stage_first, stage_next, stage_room}
use Rattle.store_write.proofs.write_content.Goals as goal
use Rattle.store_write.proofs.write_content.Goals.{After-put_edges, After-put_faces, After-put_labels, After-put_table, After-put_u16s, After-put_u16s-2, After-put_u16s-3, After-put_u16s-4, Start}

ready : (c : Start) → Ready (held c.args.t.now c.args.spans.now) c.args.starts c.args.out.now
ready c =
    let p = held c.args.t.now c.args.spans.now in
    let long = c.requires.t_len.0 in
    let no_fault = c.requires.spans_value in
    record {
      full = held_full c.args.t.now c.args.spans.now long;
      seven = held_seven c.args.t.now c.args.spans.now long;
      few = none_left (count_faults p.counts) (content_faults (content p)) no_fault;
      good = none_right (count_faults p.counts) (content_faults (content p)) no_fault;
      places = c.requires.t_len.1;
      room = c.requires.t_len.2;
    }

-- ---- part after part

up0 : (c : After-put_table) → Ready (held c.args.t.now c.args.spans.now) c.args.starts c.args.out.now → Stage (held c.args.t.now c.args.spans.now) c.args.starts c.args.out.now 0 c.put_table.new.out
up0 c r = stage_first _ _ _ _ r (rw c.counts_in-counts.ensures at c.put_table.ensures)

up1 : (c : After-put_labels) → Stage (held c.args.t.now c.args.spans.now) c.args.starts c.args.out.now 0 c.put_table.new.out → Stage (held c.args.t.now c.args.spans.now) c.args.starts c.args.out.now 1 c.put_labels.new.out
up1 c s = stage_next _ _ _ 0 _ s _ (omega arith) (rw c.counts_in-counts.ensures at c.put_labels.ensures)

up2 : (c : After-put_edges) → Stage (held c.args.t.now c.args.spans.now) c.args.starts c.args.out.now 1 c.put_labels.new.out → Stage (held c.args.t.now c.args.spans.now) c.args.starts c.args.out.now 2 c.put_edges.new.out
up2 c s = stage_next _ _ _ 1 _ s _ (omega arith) (rw c.counts_in-counts.ensures at c.put_edges.ensures)

up3 : (c : After-put_u16s) → Stage (held c.args.t.now c.args.spans.now) c.args.starts c.args.out.now 2 c.put_edges.new.out → Stage (held c.args.t.now c.args.spans.now) c.args.starts c.args.out.now 3 c.put_u16s.new.out
up3 c s = stage_next _ _ _ 2 _ s _ (omega arith) (rw c.lists_in-lists.ensures.uses at c.put_u16s.ensures)

up4 : (c : After-put_u16s-2) → Stage (held c.args.t.now c.args.spans.now) c.args.starts c.args.out.now 3 c.put_u16s.new.out → Stage (held c.args.t.now c.args.spans.now) c.args.starts c.args.out.now 4 c.put_u16s-2.new.out
up4 c s = stage_next _ _ _ 3 _ s _ (omega arith) (rw c.lists_in-lists.ensures.wires at c.put_u16s-2.ensures)

up5 : (c : After-put_faces) → Stage (held c.args.t.now c.args.spans.now) c.args.starts c.args.out.now 4 c.put_u16s-2.new.out → Stage (held c.args.t.now c.args.spans.now) c.args.starts c.args.out.now 5 c.put_faces.new.out
up5 c s = stage_next _ _ _ 4 _ s _ (omega arith) (rw c.counts_in-counts.ensures at c.put_faces.ensures)

up6 : (c : After-put_u16s-3) → Stage (held c.args.t.now c.args.spans.now) c.args.starts c.args.out.now 5 c.put_faces.new.out → Stage (held c.args.t.now c.args.spans.now) c.args.starts c.args.out.now 6 c.put_u16s-3.new.out
up6 c s = stage_next _ _ _ 5 _ s _ (omega arith) (rw c.lists_in-lists.ensures.shells at c.put_u16s-3.ensures)

up7 : (c : After-put_u16s-4) → Stage (held c.args.t.now c.args.spans.now) c.args.starts c.args.out.now 6 c.put_u16s-3.new.out → Stage (held c.args.t.now c.args.spans.now) c.args.starts c.args.out.now 7 c.put_u16s-4.new.out
up7 c s = stage_next _ _ _ 6 _ s _ (omega arith) (rw c.lists_in-lists.ensures.listings at c.put_u16s-4.ensures)

-- ---- what each part asks

pub lists_in-lists-requires : goal.lists_in-lists-requires
lists_in-lists-requires c = (ready (goal.at.lists_in-lists-requires c).Start).few

pub put_table-requires : goal.put_table-requires
put_table-requires c = let r = ready (goal.at.put_table-requires c).Start in
    rw c.counts_in-counts.ensures (ready_table _ _ _ r, r.few, r.places)

pub put_labels-requires : goal.put_labels-requires
put_labels-requires c = let at = goal.at.put_labels-requires c in
    let up = up0 at.After-put_table (ready at.Start) in
    let limits = ready_limits _ _ _ up.ready in
    rw c.counts_in-counts.ensures (stage_room _ _ _ 0 _ up (omega arith), limits.points)

pub put_edges-requires-clause-n_in_bounds : goal.put_edges-requires-clause-n_in_bounds
put_edges-requires-clause-n_in_bounds c = let at = goal.at.put_edges-requires-clause-n_in_bounds c in
    let up = up1 at.After-put_labels (up0 at.After-put_table (ready at.Start)) in
    let limits = ready_limits _ _ _ up.ready in
    rw c.counts_in-counts.ensures (stage_room _ _ _ 1 _ up (omega arith), limits.edges)

pub put_edges-requires-clause-by_index : goal.put_edges-requires-clause-by_index
put_edges-requires-clause-by_index c =
    rw c.counts_in-counts.ensures (span_in c.args.t.now c.args.spans.now _ _ (ready (goal.at.put_edges-requires-clause-by_index c).Start))

pub put_u16s-requires : goal.put_u16s-requires
put_u16s-requires c = let at = goal.at.put_u16s-requires c in
    let up = up2 at.After-put_edges (up1 at.After-put_labels (up0 at.After-put_table (ready at.Start))) in
    let limits = ready_limits _ _ _ up.ready in
    rw (c.lists_in-lists.ensures.uses, uses_counted _ limits up.ready.full) (stage_room _ _ _ 2 _ up (omega arith))

pub put_u16s-requires-2 : goal.put_u16s-requires-2
put_u16s-requires-2 c = let at = goal.at.put_u16s-requires-2 c in
    let up = up3 at.After-put_u16s (up2 at.After-put_edges (up1 at.After-put_labels (up0 at.After-put_table (ready at.Start)))) in
    let limits = ready_limits _ _ _ up.ready in
    rw (c.lists_in-lists.ensures.wires, wires_counted _ limits up.ready.full) (stage_room _ _ _ 3 _ up (omega arith))

pub put_faces-requires : goal.put_faces-requires
put_faces-requires c = let at = goal.at.put_faces-requires c in
    let up = up4 at.After-put_u16s-2 (up3 at.After-put_u16s (up2 at.After-put_edges (up1 at.After-put_labels (up0 at.After-put_table (ready at.Start))))) in
    let limits = ready_limits _ _ _ up.ready in
    rw c.counts_in-counts.ensures (stage_room _ _ _ 4 _ up (omega arith), limits.faces)

pub put_u16s-requires-3 : goal.put_u16s-requires-3
put_u16s-requires-3 c = let at = goal.at.put_u16s-requires-3 c in
    let up = up5 at.After-put_faces (up4 at.After-put_u16s-2 (up3 at.After-put_u16s (up2 at.After-put_edges (up1 at.After-put_labels (up0 at.After-put_table (ready at.Start)))))) in
    let limits = ready_limits _ _ _ up.ready in
    rw (c.lists_in-lists.ensures.shells, shells_counted _ limits up.ready.full) (stage_room _ _ _ 5 _ up (omega arith))

pub put_u16s-requires-4 : goal.put_u16s-requires-4
put_u16s-requires-4 c = let at = goal.at.put_u16s-requires-4 c in
    let up = up6 at.After-put_u16s-3 (up5 at.After-put_faces (up4 at.After-put_u16s-2 (up3 at.After-put_u16s (up2 at.After-put_edges (up1 at.After-put_labels (up0 at.After-put_table (ready at.Start))))))) in
    let limits = ready_limits _ _ _ up.ready in
    rw (c.lists_in-lists.ensures.listings, listings_counted _ limits up.ready.full) (stage_room _ _ _ 6 _ up (omega arith))

pub returns : goal.returns
returns c = let at = goal.at.returns c in
    let up = up7 at.After-put_u16s-4 (up6 at.After-put_u16s-3 (up5 at.After-put_faces (up4 at.After-put_u16s-2 (up3 at.After-put_u16s (up2 at.After-put_edges (up1 at.After-put_labels (up0 at.After-put_table (ready at.Start)))))))) in
    stage_all _ _ _ _ up
