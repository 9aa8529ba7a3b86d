-- The line that says that there are none, or the lines of the points, the edges, the faces, the shells, one after the other.
use native.Mathlib.Omega.{arith}
use Prim.Native.Nat.{◌≤◌}
use lib.ListN.{get_or, length}
use mathlib.Core.Path.{◌∙◌, ◌≡◌, ap}
use mathlib.Core.List.{◌++◌}
use Rattle.draft_parts.specs.Parts.{bare}
use Rattle.lists.proofs.Sets.{put_then}
use Rattle.lists.specs.Lists.{flat, tabulate}
use Rattle.pattern.proofs.Counts.{Limited}
use Rattle.pattern.specs.Contents.{content}
use Rattle.store.specs.Store.{held}
use Rattle.show_text.proofs.Held.{faced, few, shelled, spans_right, text_empty, text_held}
use Rattle.show_text.specs.PatternText.{pattern_text}
use Rattle.show_text.specs.StoreText.{edge_held, face_held, point_held, shell_held}
use Rattle.show_text.proofs.put_pattern.Goals as goal

pub returns-then-is_bare : goal.returns-then-is_bare
returns-then-is_bare c = let empty = text_empty c.args.t.now c.args.spans.now c.tables_known.ensures c.requires.0 _ (c.is_bare.ensures ∙ ap bare c.counts_in-counts.ensures) c.if-is_bare.true in
    let p = c.put_text.ensures in
    rw empty (p.0, omega (arith, p.1))

pub put_points-at-requires : goal.put_points-at-requires
put_points-at-requires c = let limits : Limited c.counts_in-counts.result = rw c.counts_in-counts.ensures (few c.args.t.now c.args.spans.now c.tables_known.ensures c.requires.0) in
    let n = limits in (n.points, omega (arith, n.points, c.requires.1))

pub put_edges-at-requires-clause-n_bound : goal.put_edges-at-requires-clause-n_bound
put_edges-at-requires-clause-n_bound c = let limits : Limited c.counts_in-counts.result = rw c.counts_in-counts.ensures (few c.args.t.now c.args.spans.now c.tables_known.ensures c.requires.0) in
    let points_end : (c.put_points-at.result ≤ 81920) × (228480 ≤ length c.put_points-at.new.out) = (omega (arith, (limits).points, c.put_points-at.ensures.2), omega (arith, c.requires.1, c.put_points-at.auto)) in
    let n = limits in
    (n.edges, omega (arith, n.edges, points_end))

pub put_edges-at-requires-clause-by_index : goal.put_edges-at-requires-clause-by_index
put_edges-at-requires-clause-by_index c = let limits : Limited c.counts_in-counts.result = rw c.counts_in-counts.ensures (few c.args.t.now c.args.spans.now c.tables_known.ensures c.requires.0) in
    let points_end : (c.put_points-at.result ≤ 81920) × (228480 ≤ length c.put_points-at.new.out) = (omega (arith, (limits).points, c.put_points-at.ensures.2), omega (arith, c.requires.1, c.put_points-at.auto)) in
    let n = limits in
    rw c.counts_in-counts.ensures (spans_right c.args.t.now c.args.spans.now c.tables_known.ensures c.requires.0)

pub put_faces-at-requires : goal.put_faces-at-requires
put_faces-at-requires c = let limits : Limited c.counts_in-counts.result = rw c.counts_in-counts.ensures (few c.args.t.now c.args.spans.now c.tables_known.ensures c.requires.0) in
    let points_end : (c.put_points-at.result ≤ 81920) × (228480 ≤ length c.put_points-at.new.out) = (omega (arith, (limits).points, c.put_points-at.ensures.2), omega (arith, c.requires.1, c.put_points-at.auto)) in
    let edges_end : (c.put_edges-at.result ≤ 180224) × (228480 ≤ length c.put_edges-at.new.out) = let p = points_end in (omega (arith, (limits).edges, p.0, c.put_edges-at.ensures.2), omega (arith, p.1, c.put_edges-at.auto)) in
    (rw c.counts_in-counts.ensures (faced c.args.t.now c.args.spans.now c.tables_known.ensures c.requires.0), omega (arith, edges_end))

pub put_shells-requires : goal.put_shells-requires
put_shells-requires c = let limits : Limited c.counts_in-counts.result = rw c.counts_in-counts.ensures (few c.args.t.now c.args.spans.now c.tables_known.ensures c.requires.0) in
    let points_end : (c.put_points-at.result ≤ 81920) × (228480 ≤ length c.put_points-at.new.out) = (omega (arith, (limits).points, c.put_points-at.ensures.2), omega (arith, c.requires.1, c.put_points-at.auto)) in
    let edges_end : (c.put_edges-at.result ≤ 180224) × (228480 ≤ length c.put_edges-at.new.out) = let p = points_end in (omega (arith, (limits).edges, p.0, c.put_edges-at.ensures.2), omega (arith, p.1, c.put_edges-at.auto)) in
    (rw c.counts_in-counts.ensures (shelled c.args.t.now c.args.spans.now c.tables_known.ensures c.requires.0), omega (arith, edges_end, c.put_faces-at.ensures.2, c.put_faces-at.auto))

pub returns : goal.returns
returns c = let t = c.args.t.now in
    let spans = c.args.spans.now in
    let counts = c.counts_in-counts.result in
    let points = flat (tabulate (get_or counts 0 0) (point_held t)) in
    let edges = flat (tabulate (get_or counts 1 0) (edge_held t spans)) in
    let faces = flat (tabulate (get_or counts 4 0) (face_held t (get_or counts 4 0))) in
    let shells = flat (tabulate (get_or counts 5 0) (shell_held t (get_or counts 5 0))) in
    let same : pattern_text (content (held t spans)) ≡ points ++ edges ++ faces ++ shells =
    rw c.counts_in-counts.ensures (text_held t spans c.tables_known.ensures c.requires.0 _ (c.is_bare.ensures ∙ ap bare c.counts_in-counts.ensures) c.if-is_bare.false) in
    let q2 = put_then _ 0 points edges _ _ _ _ (c.put_points-at.ensures.0, c.put_points-at.ensures.1) (c.put_edges-at.ensures.0, c.put_edges-at.ensures.1) in
    let q3 = put_then _ 0 (points ++ edges) faces _ _ _ _ q2 (c.put_faces-at.ensures.0, c.put_faces-at.ensures.1) in
    let q4 = put_then _ 0 (points ++ edges ++ faces) shells _ _ _ _ q3 c.put_shells.ensures in
    rw same (q4.0, omega (arith, q4.1))
