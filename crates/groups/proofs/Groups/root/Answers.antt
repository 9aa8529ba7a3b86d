use native.Mathlib.Omega.{arith}
use Rattle.groups.proofs.Climbing.{climbs, root_below}
use Rattle.groups.proofs.Groups.root.Goals as goal

pub find-requires : goal.find-requires
find-requires c = climbs _ _ _ c.args.self.now.forest _ c.requires

pub returns-clause-low : goal.returns-clause-low
returns-clause-low c = omega (arith, c.find.ensures, root_below _ _ _ c.args.self.now.forest _ c.requires)
