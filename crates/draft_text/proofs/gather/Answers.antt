use mathlib.Core.Path.{◌∙◌, refl, sym}
use native.Mathlib.Omega.{arith}
use Rattle.draft_text.proofs.Lines.{wrong_right}
use Rattle.draft_text.proofs.Turns.{gathering_all, gathering_right, gathering_start, gathering_wrong}
use borrow.Author.Rules.{rules}
use Rattle.draft_text.proofs.gather.Goals as goal

pub loop-line-init : goal.loop-line-init
loop-line-init c = (refl, gathering_start _ _ _ c.requires.1)

pub add_line-requires : goal.add_line-requires
add_line-requires c = let g = c.loop-line.invariant in let l = c.in-Some.ensures.1 in (omega (arith, g.0, g.1.low, g.1.number, l), g.1.few)

pub returns-in-Err-clause-m_value : goal.returns-in-Err-clause-m_value
returns-in-Err-clause-m_value c = gathering_wrong c.loop-line.invariant.1 _ c.in-Some.ensures.0 _ (sym c.in-Err.is ∙ c.add_line.ensures.value)

pub returns-in-Err-clause-t_after : goal.returns-in-Err-clause-t_after
returns-in-Err-clause-t_after c = wrong_right _

pub loop-line-preserved : goal.loop-line-preserved
loop-line-preserved c =
    let e = c.add_line.ensures.t_after c.in_default-add_line.is in
    (search rules, gathering_right c.loop-line.invariant.1 _ c.in-Some.ensures.0 c.in-Some.ensures.2 _ _ (sym c.in_default-add_line.is ∙ c.add_line.ensures.value) e.0 e.1)

pub returns-clause-m_value : goal.returns-clause-m_value
returns-clause-m_value c = (gathering_all c.loop-line.invariant.1 c.in_default.ensures).0

pub returns-clause-t_after : goal.returns-clause-t_after
returns-clause-t_after c = λ _. (gathering_all c.loop-line.invariant.1 c.in_default.ensures).1
