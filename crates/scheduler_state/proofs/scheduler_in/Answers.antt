use mathlib.Core.Path.{ap, refl, sym}
use mathlib.Core.List.{List}
use native.Mathlib.Omega.{arith}
use lib.ListN.{get_or}
use Rattle.scheduler.specs.declared.Scheduler.{Scheduler}
use Rattle.scheduler.specs.declared.Slot.{Slot}
use Rattle.scheduler_state.proofs.Laws.{from_all, from_read, from_start}
use Rattle.scheduler_state.proofs.scheduler_in.Goals as goal

pub loop-k-init : goal.loop-k-init
loop-k-init c = from_start c.args.numbers.now _ refl

pub loop-k-preserved : goal.loop-k-preserved
loop-k-preserved c = from_read (omega arith) c.loop-k.invariant c.slot_in.ensures

pub returns : goal.returns
returns c =
    let made : List Slot → Scheduler = λ x. record { slots = x; last = get_or c.args.numbers.now 0 0 } in
    ap made (sym (from_all c.loop-k.invariant (omega arith)))
