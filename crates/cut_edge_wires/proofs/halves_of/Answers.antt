-- The two cases of a use.
use Rattle.cut_edge_wires.proofs.Halves.{halves_along, halves_reversed}
use Rattle.cut_edge_wires.proofs.halves_of.Goals as goal

pub returns-then-u-ge32768 : goal.returns-then-u-ge32768
returns-then-u-ge32768 c = halves_reversed _ _ c.requires c.if-u-ge32768.true

pub returns-else-u-ge32768 : goal.returns-else-u-ge32768
returns-else-u-ge32768 c = halves_along _ _ c.requires c.if-u-ge32768.false
