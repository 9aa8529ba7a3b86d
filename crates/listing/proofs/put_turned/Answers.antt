use mathlib.Core.List.{map, reverse}
use mathlib.Core.Path.{◌∙◌, ap}
use native.Mathlib.Omega.{arith}
use lib.ListN.{length-set}
use lib.Seq.{sets, take_all}
use Rattle.edge.specs.Uses.{turned}
use Rattle.listing.proofs.Laws.{turned_keeps}
use Rattle.listing.proofs.Loops.{turning_one}
use Rattle.listing.proofs.put_turned.Goals as goal

pub loop-i-preserved : goal.loop-i-preserved
loop-i-preserved c = let args = c.args in let loop = c.loop-i in (
  omega arith,
  simp length-set loop.invariant.1,
  turning_one args.out.now args.at args.wire.now loop.i c.turn.result loop.out (omega arith) c.turn.ensures loop.invariant.2,
)

pub returns : goal.returns
returns c = let args = c.args in
    c.loop-i.invariant.2 ∙ ap (sets args.out.now args.at) (take_all c.loop-i.i (map turned (reverse args.wire.now)) (omega (arith, turned_keeps args.wire.now)))
