use Rattle.groups.proofs.All.{forest_pairs}
use Rattle.groups.proofs.Groups.join_all.Goals as goal

pub join_all-requires-clause-forest : goal.join_all-requires-clause-forest
join_all-requires-clause-forest c = c.args.self.now.forest

pub invariant_of-self : goal.invariant_of-self
invariant_of-self c = record { forest = rw (c.join_all.ensures.parents_after, c.join_all.ensures.sizes_after) (forest_pairs _ _ _ _ c.args.self.now.forest c.requires) }
