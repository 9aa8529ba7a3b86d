-- Before each lookup the chain is what was found and the chain from there.
use Rattle.openings.proofs.Follow.{Going, start_of}
use Rattle.openings.specs.Slots.{kept_in}
use Rattle.openings.proofs.follow_from.Given as goal

abbrev pub invariant-loop-u : goal.invariant-loop-u
invariant-loop-u l = Going (start_of l.ends.fronts.now l.ends.backs.now l.initial.kept l.initial.out l.at l.lookups l.p) l.ends.fronts.now l.ends.backs.now l.initial.kept l.initial.out l.at l.lookups l.kept l.out l.q l.m l.n

abbrev pub decreases-loop-u : goal.decreases-loop-u
decreases-loop-u l = kept_in l.kept
