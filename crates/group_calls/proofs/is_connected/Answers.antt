-- As the figures of the groups say.
use Rattle.errors.proofs.Laws.{handed_on}
use mathlib.Core.Path.{◌∙◌, sym}
use Rattle.calls.proofs.Answers.{there_fine, there_ready}
use borrow.Author.Rules.{rules}
use Rattle.group_calls.proofs.is_connected.Goals as goal

pub groups_at-g-requires-clause-faultless : goal.groups_at-g-requires-clause-faultless
groups_at-g-requires-clause-faultless c = there_ready c.args.t.now c.args.spans.now _ (sym c.find_shell.ensures ∙ c.in_ok-find_shell.was)

pub groups_at-g-requires-clause-in_bounds : goal.groups_at-g-requires-clause-in_bounds
groups_at-g-requires-clause-in_bounds c = search rules

pub returns-in_err-find_shell : goal.returns-in_err-find_shell
returns-in_err-find_shell c = handed_on _ _ c.from_residual.ensures.1 ∙ rw (← c.find_shell.ensures, c.in_err-find_shell.was)

pub returns : goal.returns
returns c = let told = c.find_shell.ensures in
    let is = c.in_ok-find_shell.was in
    let g = c.groups_at-g.ensures c.args.spans.now (there_fine _ _ (sym told ∙ is)) in
    rw (← told, is, g.counts)
