use mathlib.Core.Path.{◌∙◌}
use Rattle.draft_parts.proofs.edge_of.Goals as goal

pub returns : goal.returns
returns c = c.new_unchecked.ensures ∙ rw (c.saturated.ensures, c.saturated-2.ensures, c.f64_of-t0.ensures, c.f64_of-t1.ensures)
