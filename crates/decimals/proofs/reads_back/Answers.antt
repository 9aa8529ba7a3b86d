-- The three tests, one after the other.
use Rattle.decimals.proofs.Places.{compared, too_large, too_long}
use Rattle.decimals.proofs.reads_back.Goals as goal

pub returns-then-bits-gt4696837146684686336 : goal.returns-then-bits-gt4696837146684686336
returns-then-bits-gt4696837146684686336 c = too_large _ _ c.if-bits-gt4696837146684686336.true

pub returns-then-m-ge1000000000000000 : goal.returns-then-m-ge1000000000000000
returns-then-m-ge1000000000000000 c = too_long _ _ _ c.scaled_of-m.ensures c.if-m-ge1000000000000000.true

pub returns : goal.returns
returns c = compared _ _ _ _ c.if-bits-gt4696837146684686336.false c.scaled_of-m.ensures c.if-m-ge1000000000000000.false c.nearest_bits.ensures
