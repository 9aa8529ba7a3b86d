-- Each array is the column of the definition.
use native.Mathlib.Omega.{arith}
use mathlib.Core.Path.{ap, sym}
use Prim.Native.Nat.{ℕ}
use lib.ListN.{length, length-replicate}
use lib.Seq.{length-take-le}
use Rattle.pairs.specs.declared.Pairs.{Pairs}
use Rattle.pairs.proofs.Columns.{built, first_end_lem, first_few, showing_few, showing_listed, uses_fit, uses_parted, wires_fit, wires_parted}
use Rattle.pairs.proofs.Pairs.fill.Goals as goal

pub distinct-self-requires-clause-listings_in_bounds : goal.distinct-self-requires-clause-listings_in_bounds
distinct-self-requires-clause-listings_in_bounds c = omega (arith, c.requires.showing.few, ap length (ap (λ (p : Pairs). p.pairs) c.requires.none), length-replicate {A = ℕ} 512 0)

pub distinct-self-requires-clause-by_index : goal.distinct-self-requires-clause-by_index
distinct-self-requires-clause-by_index c = showing_listed c.requires.showing

pub shared_ref_as_front-listed : goal.shared_ref_as_front-listed
shared_ref_as_front-listed c = omega (arith, c.distinct-self.ensures.value, showing_few c.requires.showing)

pub slice_bounds-listed-end : goal.slice_bounds-listed-end
slice_bounds-listed-end c = let distinct = c.distinct-self in
    sym (length-take-le _ _ (first_end_lem c.requires.showing (ap (λ (p : Pairs). p.pairs) c.requires.none) distinct.ensures.out_after distinct.ensures.value))

pub put_spans-requires-clause-pairs_len_bound : goal.put_spans-requires-clause-pairs_len_bound
put_spans-requires-clause-pairs_len_bound c = let distinct = c.distinct-self in
    (first_few c.requires.showing (ap (λ (p : Pairs). p.pairs) c.requires.none) distinct.ensures.out_after distinct.ensures.value, (ap (λ (p : Pairs). p.counts) c.requires.none))

pub put_spans-requires-clause-parted : goal.put_spans-requires-clause-parted
put_spans-requires-clause-parted c = let distinct = c.distinct-self in
    wires_parted c.requires.showing (ap (λ (p : Pairs). p.pairs) c.requires.none) distinct.ensures.out_after distinct.ensures.value

pub put_spans-requires-2-clause-pairs_len_bound : goal.put_spans-requires-2-clause-pairs_len_bound
put_spans-requires-2-clause-pairs_len_bound c = let distinct = c.distinct-self in
    (first_few c.requires.showing (ap (λ (p : Pairs). p.pairs) c.requires.none) distinct.ensures.out_after distinct.ensures.value, (ap (λ (p : Pairs). p.spans) c.requires.none))

pub put_spans-requires-2-clause-parted : goal.put_spans-requires-2-clause-parted
put_spans-requires-2-clause-parted c = let distinct = c.distinct-self in
    uses_parted c.requires.showing (ap (λ (p : Pairs). p.pairs) c.requires.none) distinct.ensures.out_after distinct.ensures.value

pub put_parts-self-requires-clause-pairs_in_bounds : goal.put_parts-self-requires-clause-pairs_in_bounds
put_parts-self-requires-clause-pairs_in_bounds c = let distinct = c.distinct-self in
    wires_fit c.requires.showing (ap (λ (p : Pairs). p.pairs) c.requires.none) distinct.ensures.out_after distinct.ensures.value _ (ap (λ (p : Pairs). p.lens) c.requires.none)

pub put_parts-self-requires-clause-parted : goal.put_parts-self-requires-clause-parted
put_parts-self-requires-clause-parted c = let distinct = c.distinct-self in
    wires_parted c.requires.showing (ap (λ (p : Pairs). p.pairs) c.requires.none) distinct.ensures.out_after distinct.ensures.value

pub put_parts-self-requires-2-clause-pairs_in_bounds : goal.put_parts-self-requires-2-clause-pairs_in_bounds
put_parts-self-requires-2-clause-pairs_in_bounds c = let distinct = c.distinct-self in
    uses_fit c.requires.showing (ap (λ (p : Pairs). p.pairs) c.requires.none) distinct.ensures.out_after distinct.ensures.value _ (ap (λ (p : Pairs). p.shown) c.requires.none)

pub put_parts-self-requires-2-clause-parted : goal.put_parts-self-requires-2-clause-parted
put_parts-self-requires-2-clause-parted c = let distinct = c.distinct-self in
    uses_parted c.requires.showing (ap (λ (p : Pairs). p.pairs) c.requires.none) distinct.ensures.out_after distinct.ensures.value

pub returns : goal.returns
returns c = let distinct = c.distinct-self in
    let put-parts = c.put_parts-self in let put-parts2 = c.put_parts-self-2 in
    built c.requires.showing (ap (λ (p : Pairs). p.pairs) c.requires.none) distinct.ensures.out_after distinct.ensures.value (ap (λ (p : Pairs). p.lens) c.requires.none) (ap (λ (p : Pairs). p.shown) c.requires.none) c.put_spans.ensures c.put_spans-2.ensures put-parts.ensures.out_after put-parts.ensures.value put-parts2.ensures.out_after put-parts2.ensures.value
