-- The number, then the sign.
use native.Mathlib.Omega.{arith}
use Rattle.lines.proofs.Steps.{put_sign, signed_long}
use Rattle.lines.proofs.put_signed.Goals as goal

pub put_decimal-end-requires : goal.put_decimal-end-requires
put_decimal-end-requires c = omega (arith, signed_long _ c.from.ensures c.sign_of-sign.ensures)

pub bounds-out-end : goal.bounds-out-end
bounds-out-end c = omega (arith, signed_long _ c.from.ensures c.sign_of-sign.ensures, c.put_decimal-end.auto.out)

pub overflow_add-result : goal.overflow_add-result
overflow_add-result c = omega (arith, signed_long _ c.from.ensures c.sign_of-sign.ensures)

pub returns : goal.returns
returns c = put_sign _ c.from.ensures c.sign_of-sign.ensures _ _ _ _ c.put_decimal-end.ensures
