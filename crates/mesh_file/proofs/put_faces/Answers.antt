use mathlib.Core.List.{[], ◌∷◌}
use mathlib.Core.Path.{◌≡◌}
use native.Mathlib.Omega.{arith}
use Rattle.store.proofs.View.{held_listings}
use Rattle.store.specs.Store.{held}
use Rattle.mesh_file.proofs.Rest.{listed_next, listed_none}
use Rattle.mesh_file.proofs.put_faces.Goals as goal

pub loop-k-init : goal.loop-k-init
loop-k-init c = λ spans. listed_none (held c.args.t.now spans)

pub loop-k-preserved : goal.loop-k-preserved
loop-k-preserved c = let k = c.loop-k.k in
    λ spans. listed_next (held c.args.t.now spans) k _ _ _ (c.loop-k.invariant spans) (c.store_face.ensures spans) (held_listings c.store_face.new.t spans c.tables_known.ensures k (k ∷ []) (omega arith))

pub returns : goal.returns
returns c = let e : c.loop-k.k ≡ c.args.n = omega arith in λ spans. rw e at (c.loop-k.invariant spans)
