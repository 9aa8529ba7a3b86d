use mathlib.Core.Path.{◌∙◌, sym}
use native.Mathlib.Omega.{arith}
use Rattle.wire.proofs.Laws.{find_here, find_next, find_past}
use Rattle.wire.proofs.find_use.Goals as goal

pub loop-i-preserved : goal.loop-i-preserved
loop-i-preserved c = (omega arith, c.loop-i.invariant.1 ∙ find_next _ _ _ c.if-i-uses.false c.if-uses-i.false)

pub returns-then-i-uses : goal.returns-then-i-uses
returns-then-i-uses c = sym (c.loop-i.invariant.1 ∙ find_past _ _ _ c.if-i-uses.true)

pub returns-then-uses-i : goal.returns-then-uses-i
returns-then-uses-i c = sym (c.loop-i.invariant.1 ∙ find_here _ _ _ c.if-i-uses.false c.if-uses-i.true)
