-- 65535 ends nowhere.
use Rattle.glue_walk.proofs.Meeting.{ends_none, ends_some}
use Rattle.glue_walk.proofs.ends_at.Goals as goal

pub returns-then-v-eq65535 : goal.returns-then-v-eq65535
returns-then-v-eq65535 c = ends_none _ _ c.if-v-eq65535.true

pub back_of-requires : goal.back_of-requires
back_of-requires c = c.requires c.if-v-eq65535.false

pub returns : goal.returns
returns c = ends_some _ _ _ _ c.if-v-eq65535.false c.back_of.ensures
