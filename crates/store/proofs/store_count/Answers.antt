use Rattle.store.proofs.View.{held_count}
use Rattle.store.proofs.store_count.Goals as goal

pub returns : goal.returns
returns c = λ spans. held_count c.args.t.now spans c.tables_known.ensures c.args.b c.args.n c.requires
