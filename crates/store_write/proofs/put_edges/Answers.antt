use mathlib.Core.Path.{refl}
use native.Mathlib.Omega.{arith}
use Rattle.edge.proofs.Laws.{no_edge}
use Rattle.pattern_file.specs.File.{edge_bytes}
use Rattle.lists.proofs.Flat.{get_d_tabulate}
use Rattle.lists.proofs.Laws.{length_tabulate}
use Rattle.lists.proofs.Sets.{laid_all, laid_next, laid_room, laid_start}
use Rattle.store.specs.Store.{edge_in}
use Rattle.store_write.proofs.put_edges.Goals as goal

pub loop-k-init : goal.loop-k-init
loop-k-init c = laid_start edge_bytes 20 _ _ _ _ (λ x. refl) (omega (arith, length_tabulate 1024 (edge_in c.args.t.now c.args.spans.now)))

pub put_edge-requires : goal.put_edge-requires
put_edge-requires c = (
  laid_room edge_bytes 20 _ _ _ _ _ _ c.loop-k.invariant c.requires.n_in_bounds.0 c.loop-k-test.true,
  rw c.edge_in.ensures (c.requires.by_index _ c.loop-k-test.true),
)

pub loop-k-preserved : goal.loop-k-preserved
loop-k-preserved c = laid_next edge_bytes 20 _ _ _ _ _ _ c.loop-k.invariant _ no_edge c.loop-k-test.true
    (rw (get_d_tabulate 1024 (edge_in c.args.t.now c.args.spans.now) c.loop-k.k no_edge (omega arith)) (rw c.edge_in.ensures at c.put_edge.ensures))

pub returns : goal.returns
returns c = laid_all edge_bytes 20 _ _ _ _ _ _ c.loop-k.invariant c.loop-k-test.false
