-- Each branch writes the text that the definition picks.
use Rattle.lines.proofs.Steps.{no_is, put_as, yes_is}
use Rattle.lines.proofs.put_connected.Goals as goal

pub returns-then-connected : goal.returns-then-connected
returns-then-connected c = put_as c.args.out.now _ _ _ (yes_is _ c.if-connected.true) c.put_text.ensures

pub returns : goal.returns
returns c = put_as c.args.out.now _ _ _ (no_is _ c.if-connected.false) c.put_text-2.ensures
