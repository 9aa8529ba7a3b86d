-- Each wire by itself.
use mathlib.Core.Path.{◌∙◌, ◌≡◌, ap, refl}
use Rattle.std.specs.Prelude.{is_ok}
use Rattle.wire.specs.OfWire.{of_wire}
use Rattle.cut_face_results.proofs.Few.{judged_rule}
use Rattle.cut_face_results.specs.Results.{keeps}
use Rattle.cut_face_results.proofs.keep_rule.Goals as goal
use Rattle.cut_face_results.proofs.keep_rule.Goals.{After-is_ok}

first_is : (c : After-is_ok) → c.is_ok.result ≡ of_wire keeps c.args.first.now
first_is c = c.is_ok.ensures.value ∙ ap is_ok c.check.ensures.value ∙ judged_rule _ _ c.args.first.now.uses.now

pub returns-else-is_ok : goal.returns-else-is_ok
returns-else-is_ok c = rw (← first_is (goal.at.returns-else-is_ok c).After-is_ok, c.if-is_ok.false) refl

pub returns-then-is_ok : goal.returns-then-is_ok
returns-then-is_ok c = rw (← first_is (goal.at.returns-then-is_ok c).After-is_ok, c.if-is_ok.true)
    (c.is_ok-then-is_ok.ensures.value ∙ ap is_ok c.check-then-is_ok.ensures.value ∙ judged_rule _ _ c.args.second.now.uses.now)
