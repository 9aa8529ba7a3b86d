use mathlib.Core.Path.{refl}
use native.Mathlib.Omega.{arith}
use Rattle.draft_text.proofs.Turns.{finding_all, finding_here, finding_next, finding_start}
use borrow.Author.Rules.{rules}
use Rattle.draft_text.proofs.line_with.Goals as goal

pub loop-line-init : goal.loop-line-init
loop-line-init c = (refl, finding_start _ _ _)

pub line_count-n-requires : goal.line_count-n-requires
line_count-n-requires c = let g = c.loop-line.invariant in let l = c.in-Some.ensures.1 in omega (arith, g.0, g.1.low, g.1.number, l)

pub returns-then-before-n : goal.returns-then-before-n
returns-then-before-n c = finding_here c.loop-line.invariant.1 _ c.in-Some.ensures.0 _ c.line_count-n.ensures c.if-before-n.true

pub loop-line-preserved : goal.loop-line-preserved
loop-line-preserved c = (search rules, finding_next c.loop-line.invariant.1 _ c.in-Some.ensures.0 _ c.line_count-n.ensures c.in-Some.ensures.2 c.if-before-n.false)

pub returns : goal.returns
returns c = finding_all c.loop-line.invariant.1 c.in_default.ensures
