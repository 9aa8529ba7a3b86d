use native.Mathlib.Omega.{arith}
use Rattle.condition.proofs.Digits.{state_in}
use Rattle.condition.proofs.state_in.Goals as goal

pub returns : goal.returns
returns c = (state_in _ _ c.requires, omega arith)
