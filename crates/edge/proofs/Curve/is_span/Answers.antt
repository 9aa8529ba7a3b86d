use mathlib.Core.Path.{◌∙◌, sym}
use lib.Ieee.{lt}
use Rattle.edge.proofs.Laws.{all_three, not_first, not_second}
use Rattle.edge.specs.Edges.{in_range, is_span}
use Rattle.edge.proofs.Curve.is_span.Goals as goal

pub returns-then-in_range-2 : goal.returns-then-in_range-2
unfolding is_span
returns-then-in_range-2 c = all_three _ _ _ (sym c.in_range.ensures ∙ c.if-in_range.true) (sym c.in_range-then-in_range.ensures ∙ c.if-in_range-2.true)

pub returns-else-in_range-2 : goal.returns-else-in_range-2
unfolding is_span
returns-else-in_range-2 c =
    not_second (in_range _) (in_range _) (lt _ _) (sym c.in_range-then-in_range.ensures ∙ c.if-in_range-2.false)

pub returns-else-in_range : goal.returns-else-in_range
unfolding is_span
returns-else-in_range c =
    not_first (in_range _) (in_range _) (lt _ _) (sym c.in_range.ensures ∙ c.if-in_range.false)
