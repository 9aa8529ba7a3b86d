use native.Mathlib.Omega.{arith}
use Rattle.condition.proofs.Loops.{all_four}
use Rattle.condition.proofs.insert_four.Goals as goal

pub insert-requires : goal.insert-requires
insert-requires c = c.requires 0 (omega arith)

pub insert-requires-2 : goal.insert-requires-2
insert-requires-2 c = c.requires 1 (omega arith)

pub insert-requires-3 : goal.insert-requires-3
insert-requires-3 c = c.requires 2 (omega arith)

pub insert-requires-4 : goal.insert-requires-4
insert-requires-4 c = c.requires 3 (omega arith)

pub returns : goal.returns
returns c = all_four _ _ _ _ _ _ (omega arith) c.insert.ensures c.insert-2.ensures c.insert-3.ensures c.insert-4.ensures
