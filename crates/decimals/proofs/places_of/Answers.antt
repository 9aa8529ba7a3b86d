use Rattle.std.proofs.Common.{sym, refl, ◌∙◌, arith}
use Rattle.decimals.proofs.Places.{passed_all, passed_here, passed_next}
use Rattle.decimals.proofs.places_of.Goals as goal

pub loop-k-init : goal.loop-k-init
loop-k-init c = (omega arith, refl)

pub loop-k-preserved : goal.loop-k-preserved
loop-k-preserved c = passed_next _ _ c.loop-k.invariant c.loop-k-test.true (sym c.reads_back.ensures ∙ c.if-reads_back.false)

pub returns : goal.returns
returns c = (passed_all _ _ c.loop-k.invariant (omega arith), omega arith)

pub returns-then-reads_back : goal.returns-then-reads_back
returns-then-reads_back c = (passed_here _ _ c.loop-k.invariant c.loop-k-test.true (sym c.reads_back.ensures ∙ c.if-reads_back.true), omega arith)
