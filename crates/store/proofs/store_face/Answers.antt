use Rattle.store.proofs.View.{held_face}
use Rattle.store.proofs.store_face.Goals as goal

pub returns : goal.returns
returns c = λ spans. held_face c.args.t.now spans c.tables_known.ensures c.args.k c.requires c.args.f
