use Rattle.mesh_calls.proofs.Laws.{follows_same}
use Rattle.mesh_calls.proofs.step_import.Goals as goal

pub returns : goal.returns
returns c = λ s h. follows_same c.put_reader.ensures (c.step-r.ensures s (follows_same c.reader_in.ensures h))
