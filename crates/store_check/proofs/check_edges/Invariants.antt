use lib.ListN.{take}
use Rattle.edge.proofs.Laws.{no_edge}
use Rattle.errors.proofs.Laws.{Passed}
use Rattle.lists.specs.Lists.{tabulate}
use Rattle.pattern.specs.Checks.{edge_faults}
use Rattle.store.specs.Store.{edge_in}
use Rattle.store_check.proofs.check_edges.Given as goal

abbrev pub invariant-loop-k : goal.invariant-loop-k
invariant-loop-k l = Passed (edge_faults l.points) no_edge (take l.n (tabulate 1024 (edge_in l.t l.spans))) 0 l.k
