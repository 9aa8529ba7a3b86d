-- The f64 nearest to 10^k.
use Rattle.std.proofs.Common.{ℕ, false, ap, ◌∙◌}
use lib.Ieee.{binary64, of_int, round}
use Rattle.decimals.proofs.power.Goals as goal

pub returns : goal.returns
unfolding of_int
returns c = c.nearest_u64_to_f64.ensures ∙ ap (λ (n : ℕ). round binary64 false n 1) c.ten_to.ensures.0
