-- The text made, and then said what is wrong.
use mathlib.Core.Path.{◌∙◌}
use Rattle.text_calls.proofs.draft.Goals as goal

pub returns-clause-value : goal.returns-clause-value
returns-clause-value c = rw (← c.make-m.ensures.0) (c.made_values.ensures ∙ rw c.put_made-length.ensures.1)

pub returns-clause-out_after : goal.returns-clause-out_after
returns-clause-out_after c = rw (← c.make-m.ensures.0) (rw c.make-m.ensures.0 c.make-m.ensures.1, c.put_made-length.ensures.0)
