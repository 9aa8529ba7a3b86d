use Rattle.draft_text.proofs.Turns.{asking_all, asking_here, asking_next}
use Rattle.draft_text.proofs.says_empty.Goals as goal

pub returns-in-Empty : goal.returns-in-Empty
returns-in-Empty c = asking_here _ _ c.loop-line.invariant _ c.in-Some.ensures.0 _ c.kind_of.ensures.0 c.in-Empty.is

pub loop-line-preserved : goal.loop-line-preserved
loop-line-preserved c = asking_next _ _ c.loop-line.invariant _ c.in-Some.ensures.0 _ c.kind_of.ensures.0 c.in_default-kind.not-Empty

pub returns : goal.returns
returns c = asking_all _ _ c.loop-line.invariant c.in_default.ensures
