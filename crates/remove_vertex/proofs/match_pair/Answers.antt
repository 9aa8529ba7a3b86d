use Rattle.remove_vertex.proofs.Stored.{tables}
use Rattle.shell_wires.proofs.Made.{uses_name}
use Rattle.remove_vertex.proofs.match_pair.Goals as goal

pub invariant_of-wires : goal.invariant_of-wires
invariant_of-wires c = record { named = uses_name _ c.requires.lent.1 }

pub corners_in-k-requires-clause-wire_tables : goal.corners_in-k-requires-clause-wire_tables
corners_in-k-requires-clause-wire_tables c = tables _ c.requires.lent.1
