use Rattle.draft_parts.proofs.Wires.{counting_all, counting_before, counting_mark, counting_start, counting_use}
use Rattle.draft_parts.proofs.count_wires.Goals as goal
use Rattle.draft_parts.proofs.count_wires.Goals.{then-x-eq65536, else-x-eq65536+then-wires-gt0, else-x-eq65536+else-wires-gt0}

pub loop-x-init : goal.loop-x-init
loop-x-init c = counting_start _

pub returns : goal.returns
returns c = counting_all c.loop-x.invariant c.loop-x-test.false

pub loop-x-preserved : goal.loop-x-preserved
loop-x-preserved c =
    elim c.if-x-eq65536.branch [
      | then-x-eq65536 w ↦ rw (w.uses-is, w.wires-is) (counting_mark c.loop-x.invariant c.loop-x-test.true w.if-x-eq65536.true)
      | else-x-eq65536+then-wires-gt0 w ↦ rw (w.uses-is, w.wires-is) (counting_use c.loop-x.invariant c.loop-x-test.true w.if-x-eq65536.false w.if-wires-gt0.true)
      | else-x-eq65536+else-wires-gt0 w ↦ rw (w.uses-is, w.wires-is) (counting_before c.loop-x.invariant c.loop-x-test.true w.if-x-eq65536.false w.if-wires-gt0.false)
    ]
