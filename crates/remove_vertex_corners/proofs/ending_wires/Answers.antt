use native.Mathlib.Omega.{arith}
use Rattle.remove_vertex_corners.proofs.Endings.{end_few, listed_all, listed_next, listed_start}
use Rattle.remove_vertex_corners.proofs.ending_wires.Goals as goal

pub loop-l-init : goal.loop-l-init
loop-l-init c = (c.face_endings-ends.ensures, listed_start _ _ _)

pub bounds-ends-from : goal.bounds-ends-from
bounds-ends-from c = omega (arith, c.requires.listings_len_bound.1 c.loop-l.l-index (omega arith), c.from.ensures)

pub then-e-requires : goal.then-e-requires
then-e-requires c = omega (arith, c.loop-l.invariant.1.few, c.requires.listings_len_bound.0, c.requires.counts_len_bound.2, end_few c.args.flags.now c.args.counts.now c.face_endings-ends.result c.loop-l.invariant.0 c.from.result)

pub loop-l-preserved : goal.loop-l-preserved
loop-l-preserved c = (c.loop-l.invariant.0, listed_next _ _ _ c.loop-l.invariant.1 (omega arith) c.requires.counts_len_bound.2 _ c.loop-l.invariant.0 c.from.ensures c.then-e.ensures)

pub returns : goal.returns
returns c = listed_all _ _ _ c.loop-l.invariant.1 (omega arith)
