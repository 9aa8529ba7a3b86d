-- The new edge is the head of its bucket, and the old head comes after it.
use native.Mathlib.Omega.{arith}
use Rattle.mesh_edges.proofs.Noting.{noted}
use Rattle.mesh_edges.proofs.note_edge.Goals as goal

pub returns : goal.returns
returns c = λ es long new known.
    let args = c.args in
    noted es args.index.now args.n args.p args.q c.bucket-h.result long new known c.index_known.ensures (omega arith) c.bucket-h.ensures.0 c.bucket-h.ensures.1
