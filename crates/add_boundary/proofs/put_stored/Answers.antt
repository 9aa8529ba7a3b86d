-- The wire is stored turned or as it is.
use Rattle.add_boundary.proofs.Laws.{stored_along, stored_turned}
use Rattle.add_boundary.proofs.put_stored.Goals as goal

pub returns-then-reversed : goal.returns-then-reversed
returns-then-reversed c = let args = c.args in
    stored_turned _ args.out.now _ args.wire.now args.at c.if-reversed.true c.put_turned.ensures

pub returns-else-reversed : goal.returns-else-reversed
returns-else-reversed c = let args = c.args in
    stored_along _ args.out.now _ args.wire.now args.at c.if-reversed.false c.copy_to.ensures
