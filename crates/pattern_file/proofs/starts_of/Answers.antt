use native.Mathlib.Omega.{arith}
use Rattle.pattern_file.proofs.Starts.{starting, starting_all, starting_next, starting_room}
use borrow.Author.Rules.{rules}
use Rattle.pattern_file.proofs.starts_of.Goals as goal

pub loop-b-init : goal.loop-b-init
loop-b-init c = starting _ _ _ c.file_layout-lay.ensures (search rules) (search rules)

pub overflow_mul-at : goal.overflow_mul-at
overflow_mul-at c = omega (arith, starting_room _ _ _ _ _ c.loop-b.invariant c.requires c.loop-b-test.true)

pub overflow_add-at : goal.overflow_add-at
overflow_add-at c = omega (arith, starting_room _ _ _ _ _ c.loop-b.invariant c.requires c.loop-b-test.true)

pub loop-b-preserved : goal.loop-b-preserved
loop-b-preserved c = starting_next _ _ _ _ _ c.loop-b.invariant c.loop-b-test.true

pub returns : goal.returns
returns c = starting_all _ _ _ _ _ c.loop-b.invariant (omega arith)
