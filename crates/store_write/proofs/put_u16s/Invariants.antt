-- After k turns the first k numbers are written.
use lib.ListN.{length}
use Rattle.lists.proofs.Sets.{Laid}
use Rattle.words.specs.Words.{bytes16}
use Rattle.store_write.proofs.put_u16s.Given as goal

abbrev pub invariant-loop-k : goal.invariant-loop-k
invariant-loop-k l = Laid bytes16 2 l.initial.out l.at l.ns (length l.ns) l.out l.k
