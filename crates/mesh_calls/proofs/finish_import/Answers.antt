use mathlib.Core.Path.{◌∙◌, ap}
use Rattle.mesh_answers.specs.ImportLines.{import_values}
use Rattle.mesh_calls.proofs.Laws.{follows_same}
use Rattle.mesh_calls.proofs.finish_import.Goals as goal

pub returns : goal.returns
returns c = λ s h.
    let f = c.finish-end.ensures s (follows_same c.reader_in.ensures h) in
    (c.import_values.ensures ∙ ap import_values f.0, f.1, follows_same c.put_reader.ensures f.2)
