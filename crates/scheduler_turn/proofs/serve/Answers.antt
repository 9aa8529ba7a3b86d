use native.Mathlib.Omega.{arith}
use mathlib.Core.Path.{sym}
use Rattle.scheduler.proofs.Laws.{next_below}
use Rattle.scheduler_turn.proofs.serve.Goals as goal

pub offset_bounds-slots-d : goal.offset_bounds-slots-d
offset_bounds-slots-d c = omega (arith, next_below _ 8 _ (sym c.in-Some.ensures))

pub bounds-slots-d : goal.bounds-slots-d
bounds-slots-d c = omega (arith, next_below _ 8 _ (sym c.in-Some.ensures))
