-- The pairs of the shell, and their groups.
use Rattle.reports.proofs.Columned.{counts_fit, lent_figured, lent_groups, lent_showing}
use Rattle.reports.proofs.put_groups.Goals as goal

pub fill-requires-clause-showing : goal.fill-requires-clause-showing
fill-requires-clause-showing c = rw (c.parts.ensures.0, c.parts.ensures.1, c.parts.ensures.2, c.wires_in-wires.ensures, c.shell_listings-listings.ensures) (lent_showing c.args.columns.now.made c.requires.n_bound)

pub put_figures-requires : goal.put_figures-requires
put_figures-requires c = let room = c.requires.in_bounds in
    rw (c.counts_in-table.ensures, c.lists_in.ensures.ends.0, c.lists_in.ensures.ends.1) (lent_figured c.args.columns.now.made c.requires.n_bound _ (rw (c.parts.ensures.0, c.parts.ensures.1, c.parts.ensures.2, c.wires_in-wires.ensures, c.shell_listings-listings.ensures) at c.fill.ensures) _ _ _ room.0 room.1 room.2)

pub returns : goal.returns
returns c = lent_groups c.args.columns.now.made c.requires.n_bound _ (rw (c.parts.ensures.0, c.parts.ensures.1, c.parts.ensures.2, c.wires_in-wires.ensures, c.shell_listings-listings.ensures) at c.fill.ensures) (rw (c.counts_in-table.ensures, c.lists_in.ensures.ends.0, c.lists_in.ensures.ends.1) at c.put_figures.ensures)

pub lists_in-requires : goal.lists_in-requires
lists_in-requires c = counts_fit c.args.columns.now.made c.requires.n_bound
