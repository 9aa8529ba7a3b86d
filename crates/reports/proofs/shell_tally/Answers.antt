-- The listings of the shell can be tallied.
use Rattle.reports.proofs.Openings.{tally_asked}
use Rattle.reports.proofs.shell_tally.Goals as goal

pub tally_listings-requires : goal.tally_listings-requires
tally_listings-requires c = rw (c.parts.ensures.0, c.parts.ensures.1, c.parts.ensures.2, c.shell_listings.ensures) (tally_asked c.args.columns.now.made c.requires)

pub returns : goal.returns
returns c = rw (c.parts.ensures.0, c.parts.ensures.1, c.parts.ensures.2, c.shell_listings.ensures) at c.tally_listings.ensures
