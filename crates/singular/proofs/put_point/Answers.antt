-- A point that is marked is one more.
use mathlib.Core.Path.{refl}
use native.Mathlib.Omega.{arith}
use Rattle.singular.proofs.put_point.Goals as goal

pub returns-then-marked-clause-out_after : goal.returns-then-marked-clause-out_after
returns-then-marked-clause-out_after c = rw c.if-marked.true (refl, refl)

pub returns-clause-out_after : goal.returns-clause-out_after
returns-clause-out_after c = rw c.if-marked.false (refl, omega arith)
