-- The tally gives the condition.
use mathlib.Core.Path.{◌∙◌}
use Rattle.reports.proofs.Openings.{condition_found, few_edges}
use Rattle.reports.proofs.condition_in.Goals as goal

pub condition_of-requires : goal.condition_of-requires
condition_of-requires c = rw c.counts_in-counts.ensures (few_edges c.args.columns.now.made c.requires)

pub returns : goal.returns
returns c spans ok = rw c.counts_in-counts.ensures at c.condition_of.ensures ∙ condition_found c.args.columns.now.made c.requires _ c.shell_tally.ensures spans ok
