use mathlib.Core.Path.{◌∙◌}
use Rattle.pattern.specs.Contents.{Pattern}
use Rattle.answers.proofs.Read.{value_on}
use Rattle.shell_calls.specs.ShellCalls.{condition_answer}
use Rattle.file_reports.proofs.file_condition.Goals as goal

pub returns : goal.returns
returns c = value_on c.args.file.now c.on_file.ensures (λ (p : Pattern). condition_answer p c.args.n) (λ p e es h. rw h) (λ t z r o k. search (◌∙◌) parts 12)
