-- After k turns the first k records are written.
use Rattle.words.specs.Words.{bytes32}
use Rattle.lists.proofs.Sets.{Laid}
use Rattle.lists.specs.Lists.{tabulate}
use Rattle.store.specs.Store.{label_in}
use Rattle.store_write.proofs.put_labels.Given as goal

abbrev pub invariant-loop-k : goal.invariant-loop-k
invariant-loop-k l = Laid bytes32 4 l.initial.out l.at (tabulate 2048 (label_in l.t)) l.n l.out l.k
