use Rattle.store.proofs.View.{stored_wires}
use Rattle.store.proofs.store_wires.Goals as goal

pub returns : goal.returns
returns c = λ spans. stored_wires c.args.t.now _ spans c.store_numbers.ensures.0 c.args.k c.args.from.now c.store_numbers.ensures.1 c.requires
