use Rattle.glue_walk.proofs.Meeting.{Meeting}
use Rattle.glue_walk.proofs.meet_all.Given as goal

abbrev pub invariant-loop-u : goal.invariant-loop-u
invariant-loop-u l = Meeting l.ends.fronts.now l.ends.backs.now l.part l.initial.kept l.kept l.u-index
