-- One if it is flagged and a use is found.
use mathlib.Core.Bool.{false}
use mathlib.Core.List.{map}
use Rattle.cut_edge_faults.proofs.Flags.{found_has, one_if}
use Rattle.edge.specs.Uses.{edge_number}
use Rattle.lists.specs.Lists.{has}
use Rattle.cut_edge_faults.proofs.wire_cuts.Goals as goal
use Rattle.cut_edge_faults.proofs.wire_cuts.Goals.{then-flag, else-flag}

pub returns : goal.returns
returns c = elim c.if-flag.branch [
  | then-flag w ↦ rw (c.from.ensures, w.from-is, w.is_some.ensures, w.find_use.ensures, found_has 0 c.args.e.0 c.args.uses.now, w.if-flag.true) (one_if (has c.args.e.0 (map edge_number c.args.uses.now)))
  | else-flag w ↦ rw (c.from.ensures, w.from-is, w.if-flag.false) (one_if false)
]
