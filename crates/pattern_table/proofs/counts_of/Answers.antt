use mathlib.Core.List.{append-nil}
use mathlib.Core.Path.{◌∙◌, ◌≡◌}
use native.Mathlib.Omega.{arith}
use Rattle.lists.proofs.Laws.{filling_next, filling_start}
use Rattle.pattern_table.proofs.counts_of.Goals as goal

pub loop-b-init : goal.loop-b-init
loop-b-init c = filling_start _ _

pub loop-b-preserved : goal.loop-b-preserved
loop-b-preserved c = filling_next _ 0 _ _ _ _ c.loop-b.invariant (omega arith) c.u32_at.ensures

pub returns : goal.returns
returns c = let e : c.loop-b.b ≡ 7 = omega arith in rw e at c.loop-b.invariant.is ∙ append-nil _
