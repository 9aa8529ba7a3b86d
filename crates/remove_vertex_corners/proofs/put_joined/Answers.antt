use Rattle.remove_vertex_corners.proofs.Wires.{joined_written}
use Rattle.remove_vertex_corners.proofs.put_joined.Goals as goal

pub returns-clause-out_after : goal.returns-clause-out_after
returns-clause-out_after c = let p = joined_written _ _ _ _ _ _ _ c.end_place-i.ensures.value c.end_place-i.ensures.upper_bound c.requires.0 c.swap_subwire_into_edges.ensures in p.0

pub returns-clause-value : goal.returns-clause-value
returns-clause-value c = let p = joined_written _ _ _ _ _ _ _ c.end_place-i.ensures.value c.end_place-i.ensures.upper_bound c.requires.0 c.swap_subwire_into_edges.ensures in p.1
