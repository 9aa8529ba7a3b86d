use native.Mathlib.Omega.{arith}
use mathlib.Core.Path.{ap}
use Rattle.show_lines.specs.PatternLines.{point_line}
use Rattle.show_text.proofs.Laws.{listing_all, listing_next, listing_start}
use Rattle.show_text.specs.StoreText.{point_held}
use Rattle.show_text.proofs.put_points.Goals as goal

pub loop-k-init : goal.loop-k-init
loop-k-init c = (omega arith, listing_start (point_held c.args.t.now) _ _)

pub put_point-end-requires : goal.put_point-end-requires
put_point-end-requires c = (omega (arith, c.loop-k.invariant.1.long), omega arith)

pub loop-k-preserved : goal.loop-k-preserved
loop-k-preserved c = (omega (arith, c.loop-k.invariant.0, c.put_point-end.ensures.2), listing_next (point_held c.args.t.now) c.loop-k.invariant.1 (ap (point_line c.loop-k.k) c.label_in.ensures) _ _ (c.put_point-end.ensures.0, c.put_point-end.ensures.1))

pub shape_of-out : goal.shape_of-out
shape_of-out c = c.loop-k.invariant.1.long

pub returns : goal.returns
returns c = let p = listing_all (point_held c.args.t.now) c.loop-k.invariant.1 c.args.n (omega arith) in
    (p.0, p.1, omega (arith, c.loop-k.invariant.0))
