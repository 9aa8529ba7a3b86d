-- The refusals in sequence.
use Rattle.solid.proofs.Laws.{error_empty}
use Rattle.solid.proofs.check_shell.Goals as goal

pub returns-then-listings-eq0 : goal.returns-then-listings-eq0
returns-then-listings-eq0 c = error_empty _ c.args.connected c.args.condition.0 c.args.singular c.if-listings-eq0.true
