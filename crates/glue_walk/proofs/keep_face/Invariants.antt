use Rattle.glue_walk.proofs.Keeping.{Keeping}
use Rattle.glue_walk.proofs.keep_face.Given as goal

abbrev pub invariant-loop-u : goal.invariant-loop-u
invariant-loop-u l = Keeping l.ends.fronts.now l.ends.backs.now l.part l.initial.kept l.kept l.u-index
