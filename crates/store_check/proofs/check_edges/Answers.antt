use Rattle.std.specs.Prelude.{Err}
use mathlib.Core.Path.{◌∙◌, sym, ◌≡◌}
use Rattle.errors.proofs.Laws.{passed_start, handed_on}
use Rattle.store_check.proofs.Laws.{edges_all, edges_next, edges_stop}
use Rattle.store_check.proofs.check_edges.Goals as goal

pub loop-k-init : goal.loop-k-init
loop-k-init c = passed_start _ _ _ _

pub returns-in_err-check_edge : goal.returns-in_err-check_edge
returns-in_err-check_edge c =
    handed_on _ _ c.from_residual.ensures.1 ∙ (edges_stop c.args.t.now c.args.spans.now _ _ _ c.requires c.loop-k.invariant c.loop-k-test.true _ c.edge_in.ensures _ (sym c.check_edge.ensures ∙ c.in_err-check_edge.was))

pub loop-k-preserved : goal.loop-k-preserved
loop-k-preserved c = edges_next c.args.t.now c.args.spans.now _ _ _ c.requires c.loop-k.invariant c.loop-k-test.true _ c.edge_in.ensures (sym c.check_edge.ensures ∙ c.in_ok-check_edge.was)

pub returns : goal.returns
returns c = edges_all c.args.t.now c.args.spans.now _ _ _ c.requires c.loop-k.invariant c.loop-k-test.false
