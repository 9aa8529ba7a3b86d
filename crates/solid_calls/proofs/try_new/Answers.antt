-- The checks first; then the shells.
use mathlib.Core.Path.{◌≡◌}
use mathlib.Core.List.{[]}
use mathlib.Core.Path.{◌∙◌, sym}
use Rattle.errors.proofs.Laws.{accepted_none, handed_on}
use Rattle.pattern.specs.Checks.{pattern_faults}
use Rattle.pattern.specs.Contents.{Pattern, content}
use Rattle.solid_calls.proofs.Solids.{solid_answered, unread}
use Rattle.store.specs.Store.{held}
use Rattle.solid_calls.proofs.try_new.Goals as goal

pub returns-in_err-check : goal.returns-in_err-check
returns-in_err-check c =
    handed_on _ _ c.from_residual.ensures.1 ∙ (let pattern : Pattern = held c.args.t.now c.args.spans.now in
    let p = pattern in
    unread (pattern_faults p) (content p) _ (sym c.check.ensures ∙ c.in_err-check.was))

pub put-requires-clause-faultless : goal.put-requires-clause-faultless
put-requires-clause-faultless c = let pattern : Pattern = held c.args.t.now c.args.spans.now in
    let passed : pattern_faults (pattern) ≡ [] = accepted_none _ (sym c.check.ensures ∙ c.in_ok-check.was) in
    record { spans = c.args.spans.now; ok = passed }

pub returns-in_err-solid_of : goal.returns-in_err-solid_of
returns-in_err-solid_of c = let pattern : Pattern = held c.args.t.now c.args.spans.now in
    let passed : pattern_faults (pattern) ≡ [] = accepted_none _ (sym c.check.ensures ∙ c.in_ok-check.was) in
    handed_on _ _ c.from_residual-in_err-solid_of.ensures.1 ∙ solid_answered _ (passed) (content (pattern)) (sym c.in_err-solid_of.was ∙ c.solid_of.ensures c.args.spans.now (passed))

pub returns : goal.returns
returns c = let pattern : Pattern = held c.args.t.now c.args.spans.now in
    let passed : pattern_faults (pattern) ≡ [] = accepted_none _ (sym c.check.ensures ∙ c.in_ok-check.was) in
    solid_answered _ (passed) (content (pattern)) (sym c.in_ok-solid_of.was ∙ c.solid_of.ensures c.args.spans.now (passed))
