use Rattle.mesh_edges.proofs.Chains.{seek_found, seek_next, seek_none, seek_start, seek_wrong}
use Rattle.mesh_edges.proofs.find_edge.Goals as goal

pub loop-c-init : goal.loop-c-init
loop-c-init c = seek_start c.args.t.now c.args.spans.now _ c.args.n _ _ _ _ c.bucket.ensures.0 c.bucket.ensures.1 c.from-c.ensures

pub returns-then-is_between-clause-value : goal.returns-then-is_between-clause-value
returns-then-is_between-clause-value c = seek_found c.args.t.now c.args.spans.now _ c.args.n _ _ c.requires _ c.loop-c.invariant c.loop-c-test.true c.if-e-n.false _ _ c.edge_in.ensures c.is_between.ensures c.if-is_between.true

pub returns-then-c-e-clause-value : goal.returns-then-c-e-clause-value
returns-then-c-e-clause-value c = seek_wrong c.args.t.now c.args.spans.now _ c.args.n _ _ c.requires _ c.loop-c.invariant c.loop-c-test.true _ c.from-c-in-loop-c.ensures c.if-c-e.true

pub loop-c-preserved : goal.loop-c-preserved
loop-c-preserved c = seek_next c.args.t.now c.args.spans.now _ c.args.n _ _ c.requires _ c.loop-c.invariant c.loop-c-test.true c.if-e-n.false _ _ c.edge_in.ensures c.is_between.ensures c.if-is_between.false _ c.from-c-in-loop-c.ensures

pub returns-clause-value : goal.returns-clause-value
returns-clause-value c = seek_none c.args.t.now c.args.spans.now _ c.args.n _ _ c.requires _ c.loop-c.invariant c.loop-c-test.false
