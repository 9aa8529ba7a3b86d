use native.Mathlib.Omega.{arith}
use Rattle.extract.proofs.Laws.{tallying_all, tallying_next, tallying_start}
use Rattle.extract.proofs.tally_listings.Goals as goal

pub loop-l-init : goal.loop-l-init
loop-l-init c = tallying_start _ _ _ _ _ c.new-t.ensures.0 c.new-t.ensures.1

pub part-requires : goal.part-requires
part-requires c = (c.requires _ c.loop-l-test.true).shows

pub tally_part-t-requires : goal.tally_part-t-requires
tally_part-t-requires c = rw c.part.ensures (c.requires _ c.loop-l-test.true).edges

pub loop-l-preserved : goal.loop-l-preserved
loop-l-preserved c = tallying_next _ _ _ _ _ _ c.loop-l.invariant c.loop-l-test.true _ _ c.part.ensures c.tally_part-t.ensures

pub returns : goal.returns
returns c = tallying_all _ _ _ _ _ _ c.loop-l.invariant (omega arith)
