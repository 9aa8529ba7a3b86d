-- From a reader of nothing, all bytes at once.
use mathlib.Core.List.{[]}
use Rattle.mesh.specs.Reading.{read_bytes}
use Rattle.mesh_edges.proofs.Noting.{indexed_none}
use Rattle.mesh_file.proofs.import_mesh.Goals as goal

pub returns : goal.returns
unfolding read_bytes
returns c = let end = c.finish-end.ensures _ (c.step-read.ensures [] (c.new.ensures _ _ indexed_none)) in
    (end.0, end.1)
