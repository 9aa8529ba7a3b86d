use native.Mathlib.Omega.{arith}
use Prim.Native.Nat.{ℕ}
use lib.ListN.{length, length-replicate}
use mathlib.Core.Path.{ap}
use Rattle.pairs.proofs.Loops.{spanning_all, spanning_next, spanning_start}
use Rattle.pairs.proofs.put_spans.Goals as goal

pub loop-k-init : goal.loop-k-init
loop-k-init c = spanning_start _ _ _ _ _ c.requires.pairs_len_bound.0 c.requires.pairs_len_bound.1

pub part-part-requires : goal.part-part-requires
part-part-requires c = c.requires.parted.shows _ (omega arith)

pub short-requires : goal.short-requires
short-requires c = rw c.part-part.ensures (c.requires.parted.short _ (omega arith))

pub loop-k-preserved : goal.loop-k-preserved
loop-k-preserved c = spanning_next _ _ _ _ c.loop-k.invariant (omega arith) _ _ c.part-part.ensures c.short.ensures

pub shape_of-out : goal.shape_of-out
shape_of-out c = omega (arith, c.loop-k.invariant.long, ap length c.requires.pairs_len_bound.1, length-replicate {A = ℕ} 512 0)

pub returns : goal.returns
returns c = spanning_all _ _ _ _ c.loop-k.invariant (omega arith)
