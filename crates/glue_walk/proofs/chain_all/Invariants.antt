-- The points passed so far have given the first outlines.
use Rattle.glue_walk.proofs.Chaining.{Chaining}
use Rattle.glue_walk.proofs.chain_all.Given as goal

abbrev pub invariant-loop-q : goal.invariant-loop-q
invariant-loop-q l = Chaining l.ends.fronts.now l.ends.backs.now l.initial.kept l.initial.out l.initial.lens l.kept l.out l.lens l.w l.q
