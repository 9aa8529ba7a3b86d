use native.Mathlib.Omega.{arith}
use Rattle.columns.proofs.short_known.Goals as goal

pub returns : goal.returns
returns c k = omega (arith, c.type_inv.s k)
