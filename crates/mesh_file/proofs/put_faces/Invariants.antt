-- After k turns k faces and their listings are stored.
use mathlib.Core.List.{List}
use mathlib.Core.Path.{◌≡◌}
use lib.Ieee.{Float}
use Rattle.store.specs.Store.{held}
use Rattle.mesh_file.specs.Judging.{with_listed}
use Rattle.mesh_file.proofs.put_faces.Given as goal

abbrev pub invariant-loop-k : goal.invariant-loop-k
invariant-loop-k l = (spans : List Float) → held l.t spans ≡ with_listed (held l.initial.t spans) l.k
