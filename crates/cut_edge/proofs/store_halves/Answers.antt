use native.Mathlib.Omega.{arith}
use Rattle.cut_edge.proofs.Store.{halves_view}
use Rattle.cut_edge.proofs.store_halves.Goals as goal

pub store_edge-requires-2 : goal.store_edge-requires-2
store_edge-requires-2 c = omega (arith, c.requires.0)

pub returns : goal.returns
returns c = halves_view c.args.t.now c.args.spans.now _ _ c.args.a c.args.e.0 c.args.v c.args.k c.args.l _ _ _ _ c.from.ensures c.edge_in-d.ensures c.new_unchecked.ensures c.new_unchecked-2.ensures c.store_edge.ensures c.store_edge-2.ensures
