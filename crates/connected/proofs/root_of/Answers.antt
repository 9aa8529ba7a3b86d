-- The root of the point that it is at.
use mathlib.Core.Path.{◌∙◌, ap}
use Rattle.groups.specs.Forest.{root_of}
use Rattle.connected.proofs.root_of.Goals as goal

pub root-requires : goal.root-requires
root-requires c = rw c.front_of.ensures c.requires.1

pub returns : goal.returns
returns c = c.root.ensures.value ∙ ap (root_of c.args.groups.now.parents) c.front_of.ensures
