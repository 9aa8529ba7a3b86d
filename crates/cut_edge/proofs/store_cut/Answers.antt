use native.Mathlib.Omega.{arith}
use Prim.Native.Nat.{ℕ, ◌≤◌, ◌+◌}
use lib.ListN.{get_or, length-replicate, replicate, length-take}
use lib.Seq.{length-take-le}
use mathlib.Core.List.{List}
use mathlib.Core.Path.{◌∙◌, ap, sym}
use Rattle.cut_edge.proofs.Store.{Sound, Written, counts_then, cut_view, ends_ready, sound_fine, wires_ready, wires_written}
use Rattle.cut_edge.specs.Cutting.{cut_in}
use Rattle.edge.specs.Edges.{edge}
use Rattle.store.specs.Store.{held, edge_in}
use Rattle.cut_edge.proofs.store_cut.Goals as goal
use Rattle.cut_edge.proofs.store_cut.Goals.{After-counts_in-counts, After-put_cut_wires-total}

sound : (c : After-counts_in-counts) → Sound c.args.t.now c.args.spans.now
sound c = record { long = c.tables_known-a.ensures; ok = c.requires.spans_value.0 }

rooms : (c : After-counts_in-counts) → (get_or c.counts_in-counts.result 1 0 + 2 ≤ 1024) × (get_or c.counts_in-counts.result 3 0 ≤ 1024)
rooms c = rw c.counts_in-counts.ensures (c.requires.t_bound.0, (sound_fine (sound c)).limits.wires)

-- the wires after the cut are written
made : (c : After-put_cut_wires-total) → Written (cut_in c.args.flags.now c.args.e.0 c.args.t.now) (get_or c.counts_in-counts.result 3 0) c.put_cut_wires-total.result c.put_cut_wires-total.new.out c.put_cut_wires-total.new.sizes
made c =
    let sound : Sound c.args.t.now c.args.spans.now = record { long = c.tables_known-a.ensures; ok = c.requires.spans_value.0 } in
    let w = c.put_cut_wires-total.ensures in
    wires_written sound c.args.e.0 c.args.v c.args.k c.args.l c.requires.spans_value.1 c.requires.spans_value.2 c.requires.t_bound.0 c.counts_in-counts.ensures c.store_halves.new.t c.store_halves.new.spans c.tables_known.ensures c.store_halves.ensures c.args.flags.now c.lists_in-lists.ensures.uses c.lists_in-lists.ensures.wires c.requires.t_bound.1 w.value w.out_after w.sizes_after

pub store_halves-requires : goal.store_halves-requires
store_halves-requires c = ((rooms (goal.at.store_halves-requires c).After-counts_in-counts).0, omega (arith, c.requires.spans_value.1, c.requires.t_bound.0))

pub lists_in-lists-requires : goal.lists_in-lists-requires
lists_in-lists-requires c = counts_then (sound (goal.at.lists_in-lists-requires c).After-counts_in-counts) c.args.e.0 c.args.v c.args.k c.args.l c.requires.spans_value.1 c.requires.spans_value.2 c.requires.t_bound.0 c.counts_in-counts.ensures c.store_halves.new.t c.store_halves.new.spans c.tables_known.ensures c.store_halves.ensures

pub invariant_of-wires : goal.invariant_of-wires
invariant_of-wires c = record { named = (ends_ready (sound (goal.at.invariant_of-wires c).After-counts_in-counts) c.args.e.0 c.args.v c.args.k c.args.l c.requires.spans_value.1 c.requires.spans_value.2 c.requires.t_bound.0 c.counts_in-counts.ensures c.store_halves.new.t c.store_halves.new.spans c.tables_known.ensures c.store_halves.ensures c.args.flags.now c.lists_in-lists.ensures.uses c.lists_in-lists.ensures.wires c.ends_in.ensures.0 c.ends_in.ensures.1).0 }

pub overflow_cast-a : goal.overflow_cast-a
overflow_cast-a c = omega (arith, (rooms (goal.at.overflow_cast-a c).After-counts_in-counts).0)

pub put_cut_wires-total-requires-clause-halved : goal.put_cut_wires-total-requires-clause-halved
put_cut_wires-total-requires-clause-halved c = (ends_ready (sound (goal.at.put_cut_wires-total-requires-clause-halved c).After-counts_in-counts) c.args.e.0 c.args.v c.args.k c.args.l c.requires.spans_value.1 c.requires.spans_value.2 c.requires.t_bound.0 c.counts_in-counts.ensures c.store_halves.new.t c.store_halves.new.spans c.tables_known.ensures c.store_halves.ensures c.args.flags.now c.lists_in-lists.ensures.uses c.lists_in-lists.ensures.wires c.ends_in.ensures.0 c.ends_in.ensures.1).1

pub put_cut_wires-total-requires-clause-lens_in_bounds : goal.put_cut_wires-total-requires-clause-lens_in_bounds
put_cut_wires-total-requires-clause-lens_in_bounds c = (wires_ready (sound (goal.at.put_cut_wires-total-requires-clause-lens_in_bounds c).After-counts_in-counts) c.args.e.0 c.args.v c.args.k c.args.l c.requires.spans_value.1 c.requires.spans_value.2 c.requires.t_bound.0 c.counts_in-counts.ensures c.store_halves.new.t c.store_halves.new.spans c.tables_known.ensures c.store_halves.ensures c.args.flags.now c.lists_in-lists.ensures.uses c.lists_in-lists.ensures.wires (replicate 4096 0) (replicate 1024 0) c.requires.spans_value.3 (length-replicate {A = ℕ} 4096 0) (length-replicate {A = ℕ} 1024 0) c.requires.t_bound.1).0

pub put_cut_wires-total-requires-clause-uses_in_bounds : goal.put_cut_wires-total-requires-clause-uses_in_bounds
put_cut_wires-total-requires-clause-uses_in_bounds c = (wires_ready (sound (goal.at.put_cut_wires-total-requires-clause-uses_in_bounds c).After-counts_in-counts) c.args.e.0 c.args.v c.args.k c.args.l c.requires.spans_value.1 c.requires.spans_value.2 c.requires.t_bound.0 c.counts_in-counts.ensures c.store_halves.new.t c.store_halves.new.spans c.tables_known.ensures c.store_halves.ensures c.args.flags.now c.lists_in-lists.ensures.uses c.lists_in-lists.ensures.wires (replicate 4096 0) (replicate 1024 0) c.requires.spans_value.3 (length-replicate {A = ℕ} 4096 0) (length-replicate {A = ℕ} 1024 0) c.requires.t_bound.1).1

pub slice_bounds-uses-end : goal.slice_bounds-uses-end
slice_bounds-uses-end c = let m = made (goal.at.slice_bounds-uses-end c).After-put_cut_wires-total in
    omega (arith, m.few, m.long)

pub slice_bounds-store_uses-end : goal.slice_bounds-store_uses-end
slice_bounds-store_uses-end c = let m = made (goal.at.slice_bounds-store_uses-end c).After-put_cut_wires-total in
    sym (length-take-le c.put_cut_wires-total.result c.put_cut_wires-total.new.out (omega (arith, m.few, m.long)))

pub store_uses-requires : goal.store_uses-requires
store_uses-requires c = let m = made (goal.at.store_uses-requires c).After-put_cut_wires-total in rw m.uses (omega (arith, m.size, m.few))

pub slice_bounds-sizes-end : goal.slice_bounds-sizes-end
slice_bounds-sizes-end c = let m = made (goal.at.slice_bounds-sizes-end c).After-put_cut_wires-total in
    omega (arith, m.wired_few, m.wide)

pub slice_bounds-store_wires-end : goal.slice_bounds-store_wires-end
slice_bounds-store_wires-end c = let m = made (goal.at.slice_bounds-store_wires-end c).After-put_cut_wires-total in
    sym (length-take-le (get_or c.counts_in-counts.result 3 0) c.put_cut_wires-total.new.sizes (omega (arith, m.wired_few, m.wide)))

pub store_wires-requires : goal.store_wires-requires
store_wires-requires c = let m = made (goal.at.store_wires-requires c).After-put_cut_wires-total in simp length-take (omega (arith, m.wired_few))

pub overflow_add-a : goal.overflow_add-a
overflow_add-a c = omega (arith, (rooms (goal.at.overflow_add-a c).After-counts_in-counts).0)

pub overflow_cast-a-2 : goal.overflow_cast-a-2
overflow_cast-a-2 c = omega (arith, (rooms (goal.at.overflow_cast-a-2 c).After-counts_in-counts).0)

pub overflow_cast-total : goal.overflow_cast-total
overflow_cast-total c = omega (arith, (made (goal.at.overflow_cast-total c).After-put_cut_wires-total).few)

pub overflow_cast-first : goal.overflow_cast-first
overflow_cast-first c = omega (arith, (rooms (goal.at.overflow_cast-first c).After-counts_in-counts).0)

pub overflow_add-result : goal.overflow_add-result
overflow_add-result c = omega (arith, (rooms (goal.at.overflow_add-result c).After-counts_in-counts).0)

pub returns-clause-value : goal.returns-clause-value
returns-clause-value c = rw c.counts_in-counts.ensures

pub returns-clause-spans_after : goal.returns-clause-spans_after
returns-clause-spans_after c =
    let m = made (goal.at.returns-clause-spans_after c).After-put_cut_wires-total in
    let z = c.store_halves.new.spans in
    let d = edge_in c.args.t.now c.args.spans.now c.args.e.0 in cut_view (held c.args.t.now c.args.spans.now) _ _ _ _ _ (sound_fine (sound (goal.at.returns-clause-spans_after c).After-counts_in-counts)) (get_or c.counts_in-counts.result 1 0) c.put_cut_wires-total.result (edge d.front c.args.v c.args.k) (edge c.args.v d.back c.args.l) (cut_in c.args.flags.now c.args.e.0 c.args.t.now) _ _
    (ap (λ (ns : List ℕ). get_or ns 1 0) c.counts_in-counts.ensures) m.size m.uses m.wires (m.wired_all ∙ ap (λ (ns : List ℕ). get_or ns 3 0) c.counts_in-counts.ensures) c.store_halves.ensures (c.store_uses.ensures z) (c.store_wires.ensures z) (c.store_count.ensures z) (c.store_count-2.ensures z)
