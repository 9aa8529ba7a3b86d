use mathlib.Core.Path.{◌∙◌}
use Rattle.edge.specs.Uses.{front_of}
use Rattle.edge.proofs.Ends.front_of.Goals as goal

pub returns : goal.returns
unfolding front_of
returns c = c.from.ensures ∙ c.front.ensures ∙ rw c.from_number.ensures
