use Rattle.words.proofs.Laws.{short_next}
use Rattle.words.proofs.put_saturated.Goals as goal

pub loop-i-preserved : goal.loop-i-preserved
loop-i-preserved c = rw (c.loop-i.invariant, c.saturated.ensures) (short_next _ _ _ _ c.loop-i-test.true)
