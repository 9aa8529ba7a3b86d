-- The condition is that of the tally.
use Rattle.errors.proofs.Laws.{handed_on}
use mathlib.Core.Path.{◌∙◌, sym}
use Rattle.calls.proofs.Answers.{there_fine, there_ready}
use Rattle.shell_calls.proofs.shell_condition.Goals as goal

pub condition_at-requires : goal.condition_at-requires
condition_at-requires c = there_ready c.args.t.now c.args.spans.now _ (sym c.find_shell.ensures ∙ c.in_ok-find_shell.was)

pub returns-in_err-find_shell : goal.returns-in_err-find_shell
returns-in_err-find_shell c = handed_on _ _ c.from_residual.ensures.1 ∙ rw (← c.find_shell.ensures, c.in_err-find_shell.was)

pub returns : goal.returns
returns c = let told = c.find_shell.ensures in
    let is = c.in_ok-find_shell.was in
    rw (← told, is, ← c.condition_at.ensures c.args.spans.now (there_fine _ _ (sym told ∙ is)))
