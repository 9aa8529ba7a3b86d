-- The openings are those that are written.
use Rattle.errors.proofs.Laws.{handed_on}
use mathlib.Core.Bool.{true≢false}
use mathlib.Core.Path.{◌∙◌, refl, sym}
use Rattle.calls.proofs.Answers.{refused_apart, there_fine, there_ready}
use Rattle.lists.specs.Lists.{flat}
use borrow.Author.Rules.{rules}
use Rattle.shell_calls.proofs.extract_boundaries.Goals as goal

pub openings_at-o-requires-clause-faultless : goal.openings_at-o-requires-clause-faultless
openings_at-o-requires-clause-faultless c = there_ready c.args.t.now c.args.spans.now _ (sym c.find_shell.ensures ∙ c.in_ok-find_shell.was)

pub openings_at-o-requires-clause-in_bounds : goal.openings_at-o-requires-clause-in_bounds
openings_at-o-requires-clause-in_bounds c = search rules

pub returns-in_err-find_shell-clause-value : goal.returns-in_err-find_shell-clause-value
unfolding flat
returns-in_err-find_shell-clause-value c = handed_on _ _ c.from_residual.ensures.1 ∙ rw (← c.find_shell.ensures, c.in_err-find_shell.was) refl

pub returns-in_err-find_shell-clause-out_after : goal.returns-in_err-find_shell-clause-out_after
unfolding flat
returns-in_err-find_shell-clause-out_after c = rw (← c.find_shell.ensures, c.in_err-find_shell.was) refl

pub returns-in_err-find_shell-clause-lens_after : goal.returns-in_err-find_shell-clause-lens_after
unfolding flat
returns-in_err-find_shell-clause-lens_after c = rw (← c.find_shell.ensures, c.in_err-find_shell.was) refl

pub returns-in_err-find_shell-clause-shell_promised : goal.returns-in_err-find_shell-clause-shell_promised
unfolding flat
returns-in_err-find_shell-clause-shell_promised c = rw (← c.find_shell.ensures, c.in_err-find_shell.was) (λ h. absurd (true≢false (refused_apart _ _ h)))

pub returns-clause-value : goal.returns-clause-value
returns-clause-value c = let told = c.find_shell.ensures in
    let is = c.in_ok-find_shell.was in
    let o = c.openings_at-o.ensures c.args.spans.now (there_fine _ _ (sym told ∙ is)) in
    rw (← told, is) (rw o.counts)

pub returns-clause-out_after : goal.returns-clause-out_after
returns-clause-out_after c = let told = c.find_shell.ensures in
    let is = c.in_ok-find_shell.was in
    let o = c.openings_at-o.ensures c.args.spans.now (there_fine _ _ (sym told ∙ is)) in
    rw (← told, is) o.uses

pub returns-clause-lens_after : goal.returns-clause-lens_after
returns-clause-lens_after c = let told = c.find_shell.ensures in
    let is = c.in_ok-find_shell.was in
    let o = c.openings_at-o.ensures c.args.spans.now (there_fine _ _ (sym told ∙ is)) in
    rw (← told, is) o.lengths

pub returns-clause-shell_promised : goal.returns-clause-shell_promised
returns-clause-shell_promised c = let told = c.find_shell.ensures in
    let is = c.in_ok-find_shell.was in
    let o = c.openings_at-o.ensures c.args.spans.now (there_fine _ _ (sym told ∙ is)) in
    rw (← told, is) (λ h. o.promised)
