use mathlib.Core.Path.{◌≡◌}
use lib.ListN.{length}
use Rattle.mesh_edges.proofs.clear_index.Goals as goal

pub returns : goal.returns
returns c = let long : length c.args.index.now ≡ 17408 = c.index_known.ensures in rw long at (c.fill.ensures.after (λ y e. e))
