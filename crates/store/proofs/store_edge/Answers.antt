use Rattle.store.proofs.View.{held_edge}
use Rattle.store.proofs.store_edge.Goals as goal

pub returns : goal.returns
returns c = held_edge c.args.t.now c.args.spans.now c.tables_known.ensures c.spans_known.ensures c.args.k c.requires c.args.d
