use native.Mathlib.Numerals.{add-one}
use lib.ListN.{take}
use Rattle.lists.proofs.Laws.{sum_next}
use Rattle.lists.specs.Lists.{sum}
use borrow.Author.Rules.{rules}
use Rattle.words.proofs.sum_of.Goals as goal

pub loop-x-init : goal.loop-x-init
unfolding sum
loop-x-init c = search rules

pub loop-x-preserved : goal.loop-x-preserved
loop-x-preserved c = rw add-one (let h = sum_next c.args.ns.now c.loop-x.x-index in search rules)
