use mathlib.Core.Path.{◌∙◌}
use Rattle.pattern.specs.Contents.{Pattern}
use Rattle.answers.proofs.Read.{value_on}
use Rattle.solid_calls.specs.Solids.{solid_answer}
use Rattle.file_reports.proofs.file_solid.Goals as goal

pub returns : goal.returns
returns c = value_on c.args.file.now c.on_file.ensures (λ (p : Pattern). solid_answer p) (λ p e es h. rw h) (λ t z r o k. search (◌∙◌) parts 12)
