use Rattle.groups.proofs.All.{forest_join}
use Rattle.groups.proofs.Laws.{ready}
use Rattle.groups.proofs.Groups.join.Goals as goal

pub join-requires : goal.join-requires
join-requires c = ready _ _ _ c.args.self.now.forest _ _ c.requires.0 c.requires.1

pub invariant_of-self : goal.invariant_of-self
invariant_of-self c = record { forest = rw (c.join.ensures.parents_after, c.join.ensures.sizes_after) (forest_join _ _ _ c.args.self.now.forest _ _ c.requires.0 c.requires.1) }
