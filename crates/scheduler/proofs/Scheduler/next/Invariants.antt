-- Each turn looks at the next slot.
use Prim.Native.Nat.{◌-◌}
use mathlib.Core.Path.{◌≡◌}
use Rattle.scheduler.specs.Scheduler.{first_waiting, next_job}
use Rattle.scheduler.proofs.Scheduler.next.Given as goal

abbrev pub invariant-loop : goal.invariant-loop
invariant-loop l = first_waiting l.self.slots (8 - l.counter) l.d ≡ next_job l.self
