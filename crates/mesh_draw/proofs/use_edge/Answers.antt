-- Along the edge, or reversed.
use Rattle.mesh_draw.proofs.Uses.{use_along, use_back_lem}
use Rattle.mesh_draw.proofs.use_edge.Goals as goal

pub returns-then-d-p : goal.returns-then-d-p
returns-then-d-p c = λ m us index k.
    let args = c.args in
    rw (← use_along _ _ c.edge_in-d.ensures args.k args.p c.if-d-p.true) (c.add_use.ensures m us args.spans.now index k)

pub returns : goal.returns
returns c = λ m us index k.
    let args = c.args in
    rw (← use_back_lem _ _ c.edge_in-d.ensures args.k args.p c.if-d-p.false) (c.add_use-2.ensures m us args.spans.now index k)
