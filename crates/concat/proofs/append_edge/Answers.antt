use native.Mathlib.Omega.{arith}
use Prim.Native.Nat.{ℕ}
use lib.ListN.{get_or}
use mathlib.Core.List.{List}
use mathlib.Core.Path.{ap, ◌≡◌}
use Rattle.store.specs.Store.{count_table, held}
use Rattle.concat.proofs.Stored.{append_view}
use Rattle.concat.proofs.append_edge.Goals as goal

pub store_edge-requires : goal.store_edge-requires
store_edge-requires c = let count : get_or c.counts_in-counts.result 1 0 ≡ get_or (count_table c.args.t.now) 1 0 = ap (λ (ns : List ℕ). get_or ns 1 0) c.counts_in-counts.ensures in
    omega (arith, count, c.requires)

pub overflow_add-n : goal.overflow_add-n
overflow_add-n c = let count : get_or c.counts_in-counts.result 1 0 ≡ get_or (count_table c.args.t.now) 1 0 = ap (λ (ns : List ℕ). get_or ns 1 0) c.counts_in-counts.ensures in
    omega (arith, count, c.requires)

pub overflow_cast-n : goal.overflow_cast-n
overflow_cast-n c = let count : get_or c.counts_in-counts.result 1 0 ≡ get_or (count_table c.args.t.now) 1 0 = ap (λ (ns : List ℕ). get_or ns 1 0) c.counts_in-counts.ensures in
    omega (arith, count, c.requires)

pub overflow_cast-result : goal.overflow_cast-result
overflow_cast-result c = let count : get_or c.counts_in-counts.result 1 0 ≡ get_or (count_table c.args.t.now) 1 0 = ap (λ (ns : List ℕ). get_or ns 1 0) c.counts_in-counts.ensures in
    omega (arith, count, c.requires)

pub returns-clause-result_value : goal.returns-clause-result_value
returns-clause-result_value c = let count : get_or c.counts_in-counts.result 1 0 ≡ get_or (count_table c.args.t.now) 1 0 = ap (λ (ns : List ℕ). get_or ns 1 0) c.counts_in-counts.ensures in
    let n = count in
    n

pub returns-clause-spans_after : goal.returns-clause-spans_after
returns-clause-spans_after c = let count : get_or c.counts_in-counts.result 1 0 ≡ get_or (count_table c.args.t.now) 1 0 = ap (λ (ns : List ℕ). get_or ns 1 0) c.counts_in-counts.ensures in
    let n = count in
    append_view (held c.args.t.now c.args.spans.now) _ _ _ c.args.d n c.store_edge.ensures (c.store_count.ensures c.store_edge.new.spans)
