-- The components are those that are written.
use Rattle.errors.proofs.Laws.{handed_on}
use mathlib.Core.Path.{◌∙◌, refl, sym}
use Rattle.calls.proofs.Answers.{there_fine, there_ready}
use Rattle.lists.specs.Lists.{flat}
use borrow.Author.Rules.{rules}
use Rattle.group_calls.proofs.connected_components.Goals as goal

pub groups_at-g-requires-clause-faultless : goal.groups_at-g-requires-clause-faultless
groups_at-g-requires-clause-faultless c = there_ready c.args.t.now c.args.spans.now _ (sym c.find_shell.ensures ∙ c.in_ok-find_shell.was)

pub groups_at-g-requires-clause-in_bounds : goal.groups_at-g-requires-clause-in_bounds
groups_at-g-requires-clause-in_bounds c = search rules

pub returns-in_err-find_shell-clause-value : goal.returns-in_err-find_shell-clause-value
unfolding flat
returns-in_err-find_shell-clause-value c = handed_on _ _ c.from_residual.ensures.1 ∙ rw (← c.find_shell.ensures, c.in_err-find_shell.was) refl

pub returns-in_err-find_shell-clause-out_after : goal.returns-in_err-find_shell-clause-out_after
unfolding flat
returns-in_err-find_shell-clause-out_after c = rw (← c.find_shell.ensures, c.in_err-find_shell.was) refl

pub returns-in_err-find_shell-clause-lens_after : goal.returns-in_err-find_shell-clause-lens_after
unfolding flat
returns-in_err-find_shell-clause-lens_after c = rw (← c.find_shell.ensures, c.in_err-find_shell.was) refl

pub returns-clause-value : goal.returns-clause-value
returns-clause-value c = let told = c.find_shell.ensures in
    let is = c.in_ok-find_shell.was in
    let g = c.groups_at-g.ensures c.args.spans.now (there_fine _ _ (sym told ∙ is)) in
    rw (← told, is) (rw g.counts)

pub returns-clause-out_after : goal.returns-clause-out_after
returns-clause-out_after c = let told = c.find_shell.ensures in
    let is = c.in_ok-find_shell.was in
    let g = c.groups_at-g.ensures c.args.spans.now (there_fine _ _ (sym told ∙ is)) in
    rw (← told, is) g.pairs

pub returns-clause-lens_after : goal.returns-clause-lens_after
returns-clause-lens_after c = let told = c.find_shell.ensures in
    let is = c.in_ok-find_shell.was in
    let g = c.groups_at-g.ensures c.args.spans.now (there_fine _ _ (sym told ∙ is)) in
    rw (← told, is) g.lengths
