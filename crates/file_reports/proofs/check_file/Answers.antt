use mathlib.Core.Path.{◌∙◌, ap}
use Rattle.answers.specs.Values.{check_values}
use Rattle.file_reports.proofs.check_file.Goals as goal

pub returns : goal.returns
returns c = c.check_values.ensures ∙ ap check_values c.read.ensures.value
