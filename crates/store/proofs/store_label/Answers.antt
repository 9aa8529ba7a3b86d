use Rattle.store.proofs.View.{held_label}
use Rattle.store.proofs.store_label.Goals as goal

pub returns : goal.returns
returns c = λ spans. held_label c.args.t.now spans c.tables_known.ensures c.args.k c.requires c.args.label
