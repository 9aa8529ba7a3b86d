use Rattle.store.proofs.View.{stored_uses}
use Rattle.store.proofs.store_uses.Goals as goal

pub returns : goal.returns
returns c = λ spans. stored_uses c.args.t.now _ spans c.store_numbers.ensures.0 c.args.k c.args.from.now c.store_numbers.ensures.1 c.requires
