use mathlib.Core.Path.{◌∙◌, refl, sym}
use Rattle.curve.proofs.join_curves.Goals as goal

pub returns-then-is_span : goal.returns-then-is_span
returns-then-is_span c = rw (sym c.is_span.ensures ∙ c.if-is_span.true) refl

pub returns : goal.returns
returns c = rw (sym c.is_span.ensures ∙ c.if-is_span.false) refl
