-- After b turns the first b entries are written.
use mathlib.Core.Path.{◌≡◌}
use lib.ListN.{length}
use Rattle.lists.proofs.Sets.{Laid}
use Rattle.pattern_file.proofs.Records.{entry_bytes}
use Rattle.store_write.proofs.Laws.{entries}
use Rattle.store_write.proofs.put_table.Given as goal

abbrev pub invariant-loop-b : goal.invariant-loop-b
invariant-loop-b l = (length l.counts ≡ 7) × Laid entry_bytes 8 l.initial.out 0 (entries l.counts) 7 l.out l.b
