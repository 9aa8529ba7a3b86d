-- The tally gives the condition and which uses are free; the walk along these is that of the shell.
use borrow.Author.Tests.{eqb-true}
use mathlib.Core.Path.{◌≡◌, ◌∙◌, sym}
use Rattle.reports.proofs.Columned.{counts_fit}
use Rattle.reports.proofs.Openings.{few_edges, lent_closed, lent_extractable, lent_openings, walk_asked}
use Rattle.reports.proofs.put_openings.Goals as goal

pub condition_of-condition-requires : goal.condition_of-condition-requires
condition_of-condition-requires c = rw c.counts_in-counts.ensures (few_edges c.args.columns.now.made c.requires.n_bound)

-- a Closed shell has no openings
pub returns-then-eq-clause-of_tables : goal.returns-then-eq-clause-of_tables
returns-then-eq-clause-of_tables c = let closed : c.condition_of-condition.result.0 ≡ 3 = eqb-true _ 3 (sym c.eq.ensures ∙ c.if-eq.true) in
    lent_closed c.args.columns.now.made c.requires.n_bound _ c.shell_tally-tally.ensures _ (rw c.counts_in-counts.ensures at c.condition_of-condition.ensures) closed _ _

pub odd_of-odd-requires : goal.odd_of-odd-requires
odd_of-odd-requires c = rw c.counts_in-counts.ensures (few_edges c.args.columns.now.made c.requires.n_bound)

pub openings_of-w-requires-clause-all_walk : goal.openings_of-w-requires-clause-all_walk
openings_of-w-requires-clause-all_walk c = rw (c.lists_in.ensures.ends.0, c.lists_in.ensures.ends.1, c.parts.ensures.0, c.parts.ensures.1, c.parts.ensures.2, c.shell_listings-listings.ensures) (walk_asked c.args.columns.now.made c.requires.n_bound)

pub openings_of-w-requires-clause-extractable : goal.openings_of-w-requires-clause-extractable
openings_of-w-requires-clause-extractable c = let room = c.requires.in_bounds in
    rw (c.counts_in-counts.ensures, c.lists_in.ensures.ends.0, c.lists_in.ensures.ends.1, c.parts.ensures.0, c.parts.ensures.1, c.parts.ensures.2, c.shell_listings-listings.ensures) (lent_extractable c.args.columns.now.made c.requires.n_bound _ c.shell_tally-tally.ensures _ _ _ (rw c.counts_in-counts.ensures at c.odd_of-odd.ensures) room.0 room.1)

pub returns-clause-of_tables : goal.returns-clause-of_tables
returns-clause-of_tables c = lent_openings c.args.columns.now.made c.requires.n_bound _ c.shell_tally-tally.ensures _ (rw c.counts_in-counts.ensures at c.condition_of-condition.ensures) (rw (c.counts_in-counts.ensures, c.lists_in.ensures.ends.0, c.lists_in.ensures.ends.1, c.parts.ensures.0, c.parts.ensures.1, c.parts.ensures.2, c.shell_listings-listings.ensures) at c.openings_of-w.ensures)

pub lists_in-requires : goal.lists_in-requires
lists_in-requires c = counts_fit c.args.columns.now.made c.requires.n_bound
