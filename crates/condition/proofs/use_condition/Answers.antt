use borrow.Author.Tests.{eq-eqb, ne_eqb}
use Rattle.condition.proofs.use_condition.Goals as goal

pub returns-then-s-eq2 : goal.returns-then-s-eq2
returns-then-s-eq2 c = rw (eq-eqb _ 2 c.if-s-eq2.true)

pub returns-then-s-way : goal.returns-then-s-way
returns-then-s-way c = rw (ne_eqb _ 2 c.if-s-eq2.false, eq-eqb _ _ c.if-s-way.true)

pub returns : goal.returns
returns c = rw (ne_eqb _ 2 c.if-s-eq2.false, ne_eqb _ _ c.if-s-way.false)
