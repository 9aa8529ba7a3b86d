-- After i turns the first i uses are noted.
use Rattle.singular.proofs.Noting.{Noting}
use Rattle.singular.proofs.several_roots.Given as goal

abbrev pub invariant-loop-u : goal.invariant-loop-u
invariant-loop-u l = Noting l.ends.fronts.now l.ends.backs.now l.groups.parents l.uses l.roots l.several l.any l.u-index
