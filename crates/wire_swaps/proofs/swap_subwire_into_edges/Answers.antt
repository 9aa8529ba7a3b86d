-- The parts before and after the two uses, and the one between, are stored one after the other.
use Rattle.wire_swaps.proofs.Swaps.{swap_last_written, swap_pair_written}
use Rattle.wire_swaps.proofs.swap_subwire_into_edges.Goals as goal

pub returns-then-i-uses : goal.returns-then-i-uses
returns-then-i-uses c = swap_last_written c.args.uses.now _ _ c.args.out.now _ _ c.requires.i_in_bounds c.requires.in_bounds c.if-i-uses.true c.copy_to.ensures

pub returns-else-i-uses : goal.returns-else-i-uses
returns-else-i-uses c = swap_pair_written _ _ _ _ _ _ c.requires.i_in_bounds _ c.if-i-uses.false c.copy_to-else-i-uses.ensures c.copy_to-else-i-uses-2.ensures
