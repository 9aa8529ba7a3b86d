-- The name, and the byte after it.
use Rattle.queue.proofs.Texts.{feed_done, other_not, short_not, space_done}
use Rattle.queue.proofs.is_done.Goals as goal

pub returns-then-answer-lt5 : goal.returns-then-answer-lt5
returns-then-answer-lt5 c = short_not _ c.if-answer-lt5.true

pub returns-then-name_of-ne5979991653 : goal.returns-then-name_of-ne5979991653
returns-then-name_of-ne5979991653 c = other_not _ _ c.name_of.ensures c.if-name_of-ne5979991653.true

pub returns-then-answer-eq32 : goal.returns-then-answer-eq32
returns-then-answer-eq32 c = space_done _ _ c.name_of.ensures c.if-name_of-ne5979991653.false c.if-answer-eq32.true

pub returns : goal.returns
returns c = feed_done _ _ c.name_of.ensures c.if-name_of-ne5979991653.false c.if-answer-eq32.false
