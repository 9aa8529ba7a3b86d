-- The search, if the wire is flagged.
use Rattle.cut_edge_wires.proofs.Put.{found_flagged}
use Rattle.wire.specs.Wires.{find_from}
use Rattle.cut_edge_wires.proofs.find_flagged.Goals as goal

pub returns-then-flag : goal.returns-then-flag
returns-then-flag c = found_flagged _ (find_from 0 _ _) c.if-flag.true c.find_use.ensures
