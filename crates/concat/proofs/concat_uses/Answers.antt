use native.Mathlib.Omega.{arith}
use Prim.Native.Nat.{◌<◌, ℕ, ◌≤◌}
use lib.ListN.{get_or, length}
use mathlib.Core.List.{List}
use mathlib.Core.Path.{ap, sym, ◌∙◌, ◌≡◌}
use Rattle.edge.specs.Uses.{edge_number}
use Rattle.pattern.proofs.Counts.{edges_counted}
use Rattle.pattern.specs.Contents.{content}
use Rattle.shell_wires.proofs.Facts.{Fine}
use Rattle.shell_wires.proofs.Held.{held_fine}
use Rattle.store.specs.Store.{count_table, held}
use Rattle.concat.proofs.Judged.{concat_judged, first_unnamed, second_unnamed}
use Rattle.concat.proofs.Stored.{held_edge_of}
use Rattle.concat.proofs.concat_uses.Goals as goal

pub returns-then-i-edges : goal.returns-then-i-edges
returns-then-i-edges c = let good : Fine (held c.args.t.now c.args.spans.now) = held_fine c.args.t.now c.args.spans.now c.tables_known-edges.ensures c.requires in
    let counted : length (content (held c.args.t.now c.args.spans.now)).edges ≡ get_or c.counts_in-counts.result 1 0 = let p = held c.args.t.now c.args.spans.now in
    edges_counted p (good).limits (good).full ∙ sym (ap (λ (ns : List ℕ). get_or ns 1 0) c.counts_in-counts.ensures) in
    let a = c.args in
    first_unnamed (content (held a.t.now a.spans.now)) a.u a.v _ (counted) (omega (arith, c.if-i-edges.true, c.from-i.ensures))

pub returns-then-j-edges : goal.returns-then-j-edges
returns-then-j-edges c = let good : Fine (held c.args.t.now c.args.spans.now) = held_fine c.args.t.now c.args.spans.now c.tables_known-edges.ensures c.requires in
    let counted : length (content (held c.args.t.now c.args.spans.now)).edges ≡ get_or c.counts_in-counts.result 1 0 = let p = held c.args.t.now c.args.spans.now in
    edges_counted p (good).limits (good).full ∙ sym (ap (λ (ns : List ℕ). get_or ns 1 0) c.counts_in-counts.ensures) in
    let a = c.args in
    second_unnamed (content (held a.t.now a.spans.now)) a.u a.v _ (counted) (omega (arith, c.if-j-edges.true, c.from-j.ensures))

pub edge_in-requires : goal.edge_in-requires
edge_in-requires c = let good : Fine (held c.args.t.now c.args.spans.now) = held_fine c.args.t.now c.args.spans.now c.tables_known-edges.ensures c.requires in
    let few : get_or c.counts_in-counts.result 1 0 ≤ 1024 = rw c.counts_in-counts.ensures (good).limits.edges in
    omega (arith, few)

pub edge_in-requires-2 : goal.edge_in-requires-2
edge_in-requires-2 c = let good : Fine (held c.args.t.now c.args.spans.now) = held_fine c.args.t.now c.args.spans.now c.tables_known-edges.ensures c.requires in
    let few : get_or c.counts_in-counts.result 1 0 ≤ 1024 = rw c.counts_in-counts.ensures (good).limits.edges in
    omega (arith, few)

pub returns : goal.returns
returns c = let good : Fine (held c.args.t.now c.args.spans.now) = held_fine c.args.t.now c.args.spans.now c.tables_known-edges.ensures c.requires in
    let a = c.args in
    let t = a.t.now in
    let spans = a.spans.now in
    let s = good in
    let n = get_or (count_table t) 1 0 in
    let count : get_or c.counts_in-counts.result 1 0 ≡ n = ap (λ (ns : List ℕ). get_or ns 1 0) c.counts_in-counts.ensures in
    let i : edge_number a.u < n = omega (arith, count, c.from-i.ensures, c.if-i-edges.false) in
    let j : edge_number a.v < n = omega (arith, count, c.from-j.ensures, c.if-j-edges.false) in
    concat_judged (content (held t spans)) a.u a.v n
    (c.edge_in.ensures ∙ held_edge_of t spans s a.u _ c.from-i.ensures i)
    (c.edge_in-2.ensures ∙ held_edge_of t spans s a.v _ c.from-j.ensures j)
    (edges_counted (held t spans) s.limits s.full) i j (rw count at c.judge_concat.ensures)
