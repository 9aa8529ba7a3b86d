use mathlib.Core.Path.{◌∙◌}
use Rattle.store_read.proofs.edge_at.Goals as goal

pub returns : goal.returns
returns c = c.new_unchecked.ensures ∙ rw (c.f64_at-t1.ensures, c.f64_at-t0.ensures, c.u16_at-2.ensures, c.u16_at.ensures)
