use Rattle.store.proofs.View.{counts_are}
use Rattle.store.proofs.counts_in.Goals as goal

pub returns : goal.returns
returns c = rw (c.from.ensures, c.from-2.ensures, c.from-3.ensures, c.from-4.ensures, c.from-5.ensures, c.from-6.ensures, c.from-7.ensures) (counts_are c.args.t.now c.tables_known.ensures)
