use mathlib.Core.Path.{◌∙◌, sym}
use native.Mathlib.Omega.{arith}
use Rattle.wire.proofs.Laws.{named_edge}
use Rattle.wire.proofs.Laws.{end_here, end_next, end_past}
use Rattle.wire.proofs.Wire.find_end.Goals as goal

pub back_of-requires : goal.back_of-requires
back_of-requires c = named_edge _ _ _ c.args.self.now.named _ (omega arith)

pub loop-k-preserved : goal.loop-k-preserved
loop-k-preserved c = (omega arith, c.loop-k.invariant.1 ∙ end_next _ _ _ _ _ c.if-k-self.false (λ e. c.if-back_of-p.false (c.back_of.ensures ∙ e)))

pub returns-then-k-self : goal.returns-then-k-self
returns-then-k-self c = rw (← c.from-p.ensures) (sym (c.loop-k.invariant.1 ∙ end_past _ _ _ _ _ c.if-k-self.true))

pub returns-then-back_of-p : goal.returns-then-back_of-p
returns-then-back_of-p c = rw (← c.from-p.ensures) (sym (c.loop-k.invariant.1 ∙ end_here _ _ _ _ _ c.if-k-self.false (sym c.back_of.ensures ∙ c.if-back_of-p.true)))
