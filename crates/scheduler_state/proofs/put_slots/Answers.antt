use mathlib.Core.Path.{refl}
use native.Mathlib.Omega.{arith}
use Rattle.scheduler_state.proofs.Laws.{from_all, from_put, from_start}
use borrow.Author.Rules.{rules}
use Rattle.scheduler_state.proofs.put_slots.Goals as goal

pub loop-k-init : goal.loop-k-init
loop-k-init c = from_start c.args.numbers c.args.slots (search rules)

pub loop-k-preserved : goal.loop-k-preserved
loop-k-preserved c = from_put (omega arith) c.loop-k.invariant c.put_slot-next.ensures refl

pub returns : goal.returns
returns c = from_all c.loop-k.invariant (omega arith)
