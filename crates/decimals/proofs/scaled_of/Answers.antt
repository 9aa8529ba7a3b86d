-- The magnitude is no NaN; 0.5 is the half of one.
use Rattle.std.proofs.Common.{◌∙◌}
use Rattle.decimals.proofs.Whole.{no_nan, scaled_is}
use Rattle.decimals.proofs.scaled_of.Goals as goal

pub float_from_bits-bits : goal.float_from_bits-bits
float_from_bits-bits c = rw (no_nan _ c.requires.0) tt

pub returns : goal.returns
returns c = c.saturating_f64_to_u64.ensures ∙ scaled_is _ _ _ c.power.ensures
