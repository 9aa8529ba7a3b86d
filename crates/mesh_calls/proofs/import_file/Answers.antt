use mathlib.Core.Path.{◌∙◌, ap}
use Rattle.mesh_answers.specs.ImportLines.{import_values}
use Rattle.mesh_hold.proofs.Theorem.{import_promised}
use Rattle.mesh_calls.proofs.import_file.Goals as goal

pub returns-clause-value : goal.returns-clause-value
returns-clause-value c = (c.import_values.ensures ∙ ap import_values c.import_mesh.ensures.0, c.import_mesh.ensures.1)

pub returns-clause-import_promised : goal.returns-clause-import_promised
returns-clause-import_promised c = import_promised _
