-- Of the points below p, those that are marked are written.
use Rattle.singular.proofs.Lists.{Listed}
use Rattle.singular.specs.Noted.{marked}
use Rattle.singular.proofs.put_points.Given as goal

abbrev pub invariant-loop-p : goal.invariant-loop-p
invariant-loop-p l = Listed (marked l.marks) l.points l.initial.out l.out l.n l.p
