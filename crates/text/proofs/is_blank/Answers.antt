-- A space is a blank; another byte is one where it is a tab.
use borrow.Author.Tests.{eq-eqb, ne_eqb}
use Rattle.text.proofs.is_blank.Goals as goal

pub returns-then-b-eq32 : goal.returns-then-b-eq32
returns-then-b-eq32 c = rw (eq-eqb _ 32 c.if-b-eq32.true)

pub returns-else-b-eq32 : goal.returns-else-b-eq32
returns-else-b-eq32 c = rw (ne_eqb _ 32 c.if-b-eq32.false)
