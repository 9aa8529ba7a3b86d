-- After k turns the first k records are written.
use Rattle.pattern_file.specs.File.{face_bytes}
use Rattle.lists.proofs.Sets.{Laid}
use Rattle.lists.specs.Lists.{tabulate}
use Rattle.store.specs.Store.{face_in}
use Rattle.store_write.proofs.put_faces.Given as goal

abbrev pub invariant-loop-k : goal.invariant-loop-k
invariant-loop-k l = Laid face_bytes 4 l.initial.out l.at (tabulate 256 (face_in l.t)) l.n l.out l.k
