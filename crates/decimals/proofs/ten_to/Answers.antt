use Rattle.std.proofs.Common.{arith}
use Rattle.decimals.proofs.Rounding.{ten_most}
use Rattle.decimals.proofs.ten_to.Goals as goal

pub returns : goal.returns
returns c = (c.pow.ensures, omega (arith, c.pow.ensures, ten_most c.args.k (omega arith)))
