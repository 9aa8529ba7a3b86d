-- After k turns the first k records are written.
use Rattle.pattern_file.specs.File.{edge_bytes}
use Rattle.lists.proofs.Sets.{Laid}
use Rattle.lists.specs.Lists.{tabulate}
use Rattle.store.specs.Store.{edge_in}
use Rattle.store_write.proofs.put_edges.Given as goal

abbrev pub invariant-loop-k : goal.invariant-loop-k
invariant-loop-k l = Laid edge_bytes 20 l.initial.out l.at (tabulate 1024 (edge_in l.t l.spans)) l.n l.out l.k
