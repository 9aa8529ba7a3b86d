-- The decimal with the fewest places that reads back, or the hexadecimal digits.
use Rattle.std.proofs.Common.{arith}
use Rattle.decimals.proofs.Places.{found}
use Rattle.decimals.proofs.Texts.{decimal_real, hex_real}
use Rattle.decimals.proofs.put_real.Goals as goal

pub returns-then-k-eq10 : goal.returns-then-k-eq10
returns-then-k-eq10 c = rw (hex_real _ _ c.places_of-k.ensures.0 (omega arith)) at c.put_hex.ensures

pub scaled_of-requires : goal.scaled_of-requires
scaled_of-requires c = ((found _ _ c.places_of-k.ensures.0 (omega arith)).small, omega arith)

pub put_fraction-requires : goal.put_fraction-requires
put_fraction-requires c = let b = found _ _ c.places_of-k.ensures.0 (omega arith) in
    (rw c.scaled_of.ensures b.short, omega arith, omega arith)

pub returns : goal.returns
returns c = rw (c.scaled_of.ensures, decimal_real _ _ c.places_of-k.ensures.0 (omega arith)) at c.put_fraction.ensures
