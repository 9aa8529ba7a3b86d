use mathlib.Core.Path.{sym}
use native.Mathlib.Omega.{arith}
use Rattle.text.proofs.Numbers.{digits_all, digits_next, digits_room, digits_stop}
use Rattle.text.proofs.digits_after.Goals as goal

pub returns-then-not-is_ascii_digit : goal.returns-then-not-is_ascii_digit
returns-then-not-is_ascii_digit c = rw (digits_stop c.loop-b.invariant c.loop-b-test.true (sym c.if-not-is_ascii_digit.ensures.value))

pub overflow_mul-m : goal.overflow_mul-m
overflow_mul-m c = omega (arith, digits_room c.loop-b.invariant c.requires c.loop-b-test.true)

pub overflow_add-m : goal.overflow_add-m
overflow_add-m c = omega (arith, digits_room c.loop-b.invariant c.requires c.loop-b-test.true)

pub loop-b-preserved : goal.loop-b-preserved
loop-b-preserved c =
    let d = c.if-not-is_ascii_digit.ensures.cases in rw c.from.ensures (digits_next c.loop-b.invariant c.loop-b-test.true d.0 d.1)

pub returns : goal.returns
returns c = let d = digits_all c.loop-b.invariant c.loop-b-test.false in rw (d.0, d.1)
