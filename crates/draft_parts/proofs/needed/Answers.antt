-- The kinds in turn.
use Rattle.draft_parts.proofs.Counts.{needed_other}
use Rattle.draft_parts.specs.Parts.{needed_words}
use Rattle.draft_parts.proofs.needed.Goals as goal

pub returns-in-Edge : goal.returns-in-Edge
unfolding needed_words
returns-in-Edge c = rw c.in-Edge.is

pub returns-in-Shell : goal.returns-in-Shell
unfolding needed_words
returns-in-Shell c = rw c.in-Shell.is

pub returns-in-Empty : goal.returns-in-Empty
unfolding needed_words
returns-in-Empty c = rw c.in-Empty.is

pub returns-in_default : goal.returns-in_default
returns-in_default c = needed_other _ c.in_default.not-Edge c.in_default.not-Shell c.in_default.not-Empty
