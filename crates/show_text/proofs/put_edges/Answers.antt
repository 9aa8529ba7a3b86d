use native.Mathlib.Omega.{arith}
use mathlib.Core.Path.{◌≡◌, ap}
use mathlib.Core.Bool.{true}
use Rattle.edge.specs.Edges.{is_span}
use Rattle.pattern_file.proofs.Records.{span_no_nan}
use Rattle.show_text.proofs.Laws.{listing_all, listing_next, listing_start}
use Rattle.show_text.specs.PatternText.{edge_text}
use Rattle.show_text.specs.StoreText.{edge_held}
use Rattle.show_text.proofs.put_edges.Goals as goal

pub loop-k-init : goal.loop-k-init
loop-k-init c = (omega arith, listing_start (edge_held c.args.t.now c.args.spans.now) _ _)

pub float_to_bits-e : goal.float_to_bits-e
float_to_bits-e c = let right : is_span c.edge_in-e.result.curve ≡ true = rw c.edge_in-e.ensures (c.requires.by_index c.loop-k.k (omega arith)) in
    (span_no_nan _ (right)).0

pub float_to_bits-e-in-loop-k : goal.float_to_bits-e-in-loop-k
float_to_bits-e-in-loop-k c = let right : is_span c.edge_in-e.result.curve ≡ true = rw c.edge_in-e.ensures (c.requires.by_index c.loop-k.k (omega arith)) in
    (span_no_nan _ (right)).1

pub put_edge-end-requires : goal.put_edge-end-requires
put_edge-end-requires c = (omega (arith, c.loop-k.invariant.1.long), omega arith)

pub loop-k-preserved : goal.loop-k-preserved
loop-k-preserved c = (omega (arith, c.loop-k.invariant.0, c.put_edge-end.ensures.2), listing_next (edge_held c.args.t.now c.args.spans.now) c.loop-k.invariant.1 (ap (edge_text c.loop-k.k) c.edge_in-e.ensures) _ _ (c.put_edge-end.ensures.0, c.put_edge-end.ensures.1))

pub shape_of-out : goal.shape_of-out
shape_of-out c = c.loop-k.invariant.1.long

pub returns : goal.returns
returns c = let p = listing_all (edge_held c.args.t.now c.args.spans.now) c.loop-k.invariant.1 c.args.n (omega arith) in
    (p.0, p.1, omega (arith, c.loop-k.invariant.0))
