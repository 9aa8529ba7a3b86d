-- The first use decides.
use Rattle.wire.proofs.Laws.{named_edge}
use Rattle.cut_face_outline.proofs.Laws.{first_is}
use Rattle.cut_face_outline.proofs.first_point.Goals as goal

pub front-requires : goal.front-requires
front-requires c = rw c.from_number.ensures (named_edge _ _ _ c.args.wire.now.named 0 c.requires)

pub returns : goal.returns
returns c = first_is _ _ c.args.wire.now.uses.now c.requires _ _ c.from_number.ensures c.front.ensures
