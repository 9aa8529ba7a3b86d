use mathlib.Core.Path.{◌∙◌, ◌≡◌, sym}
use borrow.Author.Tests.{eq-eqb, ne_eqb}
use Rattle.lists.specs.Lists.{sum}
use Rattle.pattern.proofs.check_sum.Goals as goal

pub returns-then-sum_of-total : goal.returns-then-sum_of-total
returns-then-sum_of-total c = rw (eq-eqb _ _ (sym c.sum_of.ensures ∙ c.if-sum_of-total.true))

pub returns-else-sum_of-total : goal.returns-else-sum_of-total
returns-else-sum_of-total c = rw (ne_eqb (sum c.args.ns.now) c.args.total (λ (h : sum c.args.ns.now ≡ c.args.total). c.if-sum_of-total.false (c.sum_of.ensures ∙ h)))
