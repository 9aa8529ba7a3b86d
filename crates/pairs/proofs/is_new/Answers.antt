-- Both tests hold, or the first fails.
use mathlib.Core.Path.{◌∙◌, sym}
use Rattle.pairs.proofs.is_new.Goals as goal

pub returns-then-has_wires : goal.returns-then-has_wires
returns-then-has_wires c = rw (sym c.has_wires.ensures ∙ c.if-has_wires.true, c.mark_of.ensures)

pub returns-else-has_wires : goal.returns-else-has_wires
returns-else-has_wires c = c.if-has_wires.false ∙ rw (sym c.has_wires.ensures ∙ c.if-has_wires.false)
