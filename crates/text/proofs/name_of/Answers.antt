use mathlib.Core.Path.{sym}
use native.Mathlib.Omega.{arith}
use Rattle.text.proofs.Numbers.{name_long, named_all, named_next, named_small, named_start}
use Rattle.text.proofs.name_of.Goals as goal

pub returns-then-word-gt7 : goal.returns-then-word-gt7
returns-then-word-gt7 c = sym (name_long _ (omega arith))

pub loop-b-init : goal.loop-b-init
loop-b-init c = (named_start _, omega arith)

pub overflow_mul-n : goal.overflow_mul-n
overflow_mul-n c = omega (arith, named_small c.loop-b.invariant.0 (omega arith))

pub overflow_add-n : goal.overflow_add-n
overflow_add-n c = omega (arith, named_small c.loop-b.invariant.0 (omega arith))

pub loop-b-preserved : goal.loop-b-preserved
loop-b-preserved c = let loop = c.loop-b in
    (rw c.from.ensures (named_next loop.invariant.0 c.loop-b-test.true (omega arith)), loop.invariant.1)

pub returns : goal.returns
returns c = sym (named_all c.loop-b.invariant.0 c.loop-b.invariant.1 c.loop-b-test.false)
