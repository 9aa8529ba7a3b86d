use Rattle.mesh.specs.Reading.{read_bytes}
use Rattle.mesh_calls.proofs.Laws.{cleared, follows_same}
use Rattle.mesh_calls.proofs.start_import.Goals as goal

pub returns : goal.returns
unfolding read_bytes
returns c = λ p. follows_same c.put_reader.ensures (c.new.ensures p _ (cleared c.clear_index.ensures))
