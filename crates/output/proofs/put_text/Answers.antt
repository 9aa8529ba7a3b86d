use Rattle.lists.proofs.Sets.{sets_next}
use Rattle.output.proofs.put_text.Goals as goal

pub loop-i-preserved : goal.loop-i-preserved
loop-i-preserved c = rw c.loop-i.invariant (sets_next _ _ _ _ _ c.loop-i-test.true)
