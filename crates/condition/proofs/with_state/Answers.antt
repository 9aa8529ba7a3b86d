use native.Mathlib.Omega.{arith}
use Rattle.condition.proofs.Digits.{off_fits, on_fits, on_is}
use Rattle.condition.proofs.with_state.Goals as goal

pub overflow_sub-result : goal.overflow_sub-result
overflow_sub-result c = off_fits _ _ c.requires.0

pub overflow_add-result : goal.overflow_add-result
overflow_add-result c = let h = on_fits c.args.b c.args.s (omega arith) c.requires.1 c.args.d c.requires.0 in omega (arith, h)

pub returns : goal.returns
returns c = on_is _ _ (omega arith) c.requires.1 _ c.requires.0
