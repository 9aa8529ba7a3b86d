use native.Mathlib.Omega.{arith}
use Prim.Native.Nat.{ℕ, ◌+◌, ◌*◌}
use mathlib.Core.Path.{◌≡◌}
use Rattle.pattern_file.specs.File.{edge_at}
use Rattle.store.specs.Store.{held}
use Rattle.store_read.proofs.Laws.{edges_none, edges_step}
use Rattle.store_read.proofs.read_edges.Goals as goal

pub loop-k-init : goal.loop-k-init
loop-k-init c = edges_none (held c.args.t.now c.args.spans.now) (λ (j : ℕ). edge_at c.args.s.now (c.args.at + 20 * j))

pub loop-k-preserved : goal.loop-k-preserved
loop-k-preserved c = edges_step (held c.args.t.now c.args.spans.now) (λ (j : ℕ). edge_at c.args.s.now (c.args.at + 20 * j)) c.loop-k.k _ _ _ c.loop-k.invariant c.edge_at.ensures c.store_edge.ensures

pub returns : goal.returns
returns c = let e : c.loop-k.k ≡ c.args.n = omega arith in
    rw e at c.loop-k.invariant
