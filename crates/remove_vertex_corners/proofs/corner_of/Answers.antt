use Rattle.remove_vertex_corners.proofs.Places.{corner_last, corner_other}
use Rattle.remove_vertex_corners.proofs.corner_of.Goals as goal

pub returns-then-i-uses : goal.returns-then-i-uses
returns-then-i-uses c = corner_last _ _ _ _ c.end_place-i.ensures.value c.if-i-uses.true

pub returns : goal.returns
returns c = corner_other _ _ _ _ c.end_place-i.ensures.value c.end_place-i.ensures.upper_bound c.if-i-uses.false
