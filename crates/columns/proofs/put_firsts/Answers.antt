use Prim.Native.Nat.{ℕ}
use mathlib.Core.Path.{◌∙◌, ap, sym}
use native.Mathlib.Omega.{arith}
use lib.ListN.{length, length-replicate, length-set}
use Rattle.columns.proofs.Loops.{firsting_all, firsting_long, firsting_next, firsting_start}
use Rattle.columns.proofs.put_firsts.Goals as goal

pub loop-k-init : goal.loop-k-init
loop-k-init c = let pre = c.requires in firsting_start _ _ pre.0 pre.1

pub bounds-out-k : goal.bounds-out-k
bounds-out-k c = omega (arith, firsting_long c.loop-k.invariant, c.requires.0)

pub overflow_add-at : goal.overflow_add-at
overflow_add-at c = let loop = c.loop-k in omega (arith, loop.invariant.low, loop.invariant.few, c.type_inv.counts c.loop-k.k, c.from-at.ensures)

pub loop-k-preserved : goal.loop-k-preserved
loop-k-preserved c = firsting_next c.loop-k.invariant (omega arith) c.from-at.ensures (omega (arith, c.type_inv.counts c.loop-k.k, c.from-at.ensures))

pub bounds-out-counts : goal.bounds-out-counts
bounds-out-counts c = omega (arith, firsting_long c.loop-k.invariant, c.requires.0)

pub shape_of-out : goal.shape_of-out
shape_of-out c = simp length-set (firsting_long c.loop-k.invariant ∙ sym (ap length c.requires.1 ∙ length-replicate {A = ℕ} 257 0))

pub returns : goal.returns
returns c = firsting_all c.loop-k.invariant (omega arith)
