use native.Mathlib.Omega.{arith}
use Rattle.store_write.proofs.Laws.{entries_all, entries_next, entries_room, entries_start, entry_fits}
use borrow.Author.Rules.{rules}
use Rattle.store_write.proofs.put_table.Goals as goal

pub loop-b-init : goal.loop-b-init
loop-b-init c = (search rules, entries_start _ _)

pub put_entry-requires : goal.put_entry-requires
put_entry-requires c = let fit = entry_fits c.args.counts c.args.starts c.loop-b.b c.requires.2 c.requires.1 c.loop-b.invariant.0 (omega arith) in
    (entries_room _ _ _ _ c.loop-b.invariant.1 c.requires.0 (omega arith), omega (arith, fit.0), omega (arith, fit.1))

pub loop-b-preserved : goal.loop-b-preserved
loop-b-preserved c = (c.loop-b.invariant.0, entries_next _ _ _ _ c.loop-b.invariant.1 _ _ c.requires.2 (omega arith) c.put_entry.ensures)

pub returns : goal.returns
returns c = entries_all _ _ _ _ c.loop-b.invariant.1 (omega arith)
