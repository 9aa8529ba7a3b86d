use native.Mathlib.Omega.{arith}
use Prim.Native.Nat.{◌<◌, ◌≤◌, ℕ}
use lib.ListN.{get_or, length, length-replicate, length-take}
use lib.Seq.{length-take-le}
use mathlib.Core.List.{List, map}
use mathlib.Core.Path.{ap, sym, ◌∙◌, ◌≡◌}
use Rattle.lists.specs.Lists.{flat, split}
use Rattle.pattern.proofs.Counts.{edges_counted, wires_counted}
use Rattle.pattern.specs.Contents.{Pattern}
use Rattle.remove_vertex_corners.specs.Corners.{removed_wire}
use Rattle.shell_edits.specs.Edits.{each_wire}
use Rattle.shell_wires.proofs.Facts.{Fine}
use Rattle.shell_wires.proofs.Held.{held_counts, held_fine, held_lent}
use Rattle.shell_wires.proofs.Made.{edges_few, uses_few, uses_name, wires_few}
use Rattle.shell_wires.specs.Lent.{Lent}
use Rattle.store.specs.Store.{held}
use Rattle.remove_vertex.proofs.Stored.{pairs_are, stored_written, tables, zeros_long}
use Rattle.remove_vertex.proofs.write_removal.Goals as goal
use Rattle.remove_vertex.proofs.write_removal.Goals.{After-lists_in-lists, After-put_wires-used, After-tables_known-next}

good : (c : After-tables_known-next) → Fine (held c.args.t.now c.args.spans.now)
good c = held_fine c.args.t.now c.args.spans.now c.tables_known-next.ensures c.requires.spans_value

lent : (c : After-lists_in-lists) → Lent (held c.args.t.now c.args.spans.now) c.lists_in-lists.result
lent c =
    let e = c.lists_in-lists.ensures in
    held_lent c.args.t.now c.args.spans.now c.tables_known-next.ensures c.requires.spans_value e.ends e.uses e.wires e.faces e.shells e.listings

-- there is a number left for the new edge
room : (c : After-lists_in-lists) → Lent (held c.args.t.now c.args.spans.now) c.lists_in-lists.result → Fine (held c.args.t.now c.args.spans.now) → length c.lists_in-lists.result.ends.fronts.now < 1024
room c l s = let p = held c.args.t.now c.args.spans.now in omega (arith, (edges_few p l).0, edges_counted p s.limits s.full, c.requires.t_bound)

-- what is written has room
used_few : (c : After-put_wires-used) → Lent (held c.args.t.now c.args.spans.now) c.lists_in-lists.result → c.put_wires-used.result ≤ 4096
used_few c l = omega (arith, c.put_wires-used.ensures.value.1, uses_few _ l)

-- the wires after the removal, from the lists
abbrev made : After-put_wires-used → List (List ℕ)
made c =
    let lists = c.lists_in-lists.result in
    let m = length lists.ends.fronts.now in
    each_wire (removed_wire lists.ends.fronts.now lists.ends.backs.now c.args.v.0 c.args.e m) 0 (split lists.wires.now lists.uses.now)

out_long : (c : After-put_wires-used) → length c.put_wires-used.new.out ≡ 4096
out_long c = zeros_long 4096 (flat (made c)) c.put_wires-used.ensures.out_after

sizes_long : (c : After-put_wires-used) → length c.put_wires-used.new.sizes ≡ 1024
sizes_long c = zeros_long 1024 (map length (made c)) c.put_wires-used.ensures.sizes_after

pub lists_in-lists-requires : goal.lists_in-lists-requires
lists_in-lists-requires c = held_counts c.args.t.now c.args.spans.now c.tables_known-next.ensures c.requires.spans_value

pub invariant_of-wires : goal.invariant_of-wires
invariant_of-wires c = record { named = uses_name _ (lent (goal.at.invariant_of-wires c).After-lists_in-lists) }

pub overflow_cast-next : goal.overflow_cast-next
overflow_cast-next c = let l = goal.at.overflow_cast-next c in
    omega (arith, room l.After-lists_in-lists (lent l.After-lists_in-lists) (good l.After-tables_known-next))

pub put_wires-used-requires-clause-wire_tables : goal.put_wires-used-requires-clause-wire_tables
put_wires-used-requires-clause-wire_tables c = tables _ (lent (goal.at.put_wires-used-requires-clause-wire_tables c).After-lists_in-lists)

pub put_wires-used-requires-clause-in_bounds : goal.put_wires-used-requires-clause-in_bounds
put_wires-used-requires-clause-in_bounds c = let l = goal.at.put_wires-used-requires-clause-in_bounds c in
    let lists = lent l.After-lists_in-lists in
    (omega (arith, wires_few _ lists, length-replicate {A = ℕ} 1024 0), omega (arith, uses_few _ lists, length-replicate {A = ℕ} 4096 0), room l.After-lists_in-lists lists (good l.After-tables_known-next))

pub append_edge-a-requires : goal.append_edge-a-requires
append_edge-a-requires c = c.requires.t_bound

pub slice_bounds-uses-end : goal.slice_bounds-uses-end
slice_bounds-uses-end c = let l = goal.at.slice_bounds-uses-end c in
    omega (arith, used_few l.After-put_wires-used (lent l.After-lists_in-lists), out_long l.After-put_wires-used)

pub slice_bounds-store_uses-end : goal.slice_bounds-store_uses-end
slice_bounds-store_uses-end c = let l = goal.at.slice_bounds-store_uses-end c in
    sym (length-take-le c.put_wires-used.result c.put_wires-used.new.out (omega (arith, used_few l.After-put_wires-used (lent l.After-lists_in-lists), out_long l.After-put_wires-used)))

pub store_uses-requires : goal.store_uses-requires
store_uses-requires c = let l = goal.at.store_uses-requires c in
    omega (arith, used_few l.After-put_wires-used (lent l.After-lists_in-lists), length-take c.put_wires-used.result c.put_wires-used.new.out)

pub slice_bounds-sizes-end : goal.slice_bounds-sizes-end
slice_bounds-sizes-end c = let l = goal.at.slice_bounds-sizes-end c in
    omega (arith, wires_few _ (lent l.After-lists_in-lists), sizes_long l.After-put_wires-used)

pub slice_bounds-store_wires-end : goal.slice_bounds-store_wires-end
slice_bounds-store_wires-end c = let l = goal.at.slice_bounds-store_wires-end c in
    sym (length-take-le (length c.lists_in-lists.result.wires.now) c.put_wires-used.new.sizes (omega (arith, wires_few _ (lent l.After-lists_in-lists), sizes_long l.After-put_wires-used)))

pub store_wires-requires : goal.store_wires-requires
store_wires-requires c = let l = goal.at.store_wires-requires c in
    omega (arith, wires_few _ (lent l.After-lists_in-lists), length-take (length c.lists_in-lists.result.wires.now) c.put_wires-used.new.sizes)

pub overflow_cast-used : goal.overflow_cast-used
overflow_cast-used c = let l = goal.at.overflow_cast-used c in
    omega (arith, used_few l.After-put_wires-used (lent l.After-lists_in-lists))

pub returns-clause-result_value : goal.returns-clause-result_value
returns-clause-result_value c = c.append_edge-a.ensures.result_value

pub returns-clause-spans_after : goal.returns-clause-spans_after
returns-clause-spans_after c = let l = goal.at.returns-clause-spans_after c in
    let p : Pattern = held c.args.t.now c.args.spans.now in
    let s : Fine p = good l.After-tables_known-next in
    let lists = lent l.After-lists_in-lists in
    let spans = c.append_edge-a.new.spans in
    let w = c.put_wires-used.ensures in
    let wired : length c.lists_in-lists.result.wires.now ≡ get_or p.counts 3 0 = ap length lists.wires_are ∙ wires_counted p s.limits s.full in
    stored_written p s c.args.v.0 c.args.e _ (pairs_are p lists c.args.v.0 c.args.e) c.args.d c.put_wires-used.result (length c.lists_in-lists.result.wires.now)
    c.put_wires-used.new.out c.put_wires-used.new.sizes _ _ _ _
    w.value.0 (used_few l.After-put_wires-used lists) wired w.out_after w.sizes_after
    c.append_edge-a.ensures.spans_after (c.store_uses.ensures spans) (c.store_wires.ensures spans) (c.store_count.ensures spans)
