use native.Mathlib.Omega.{arith}
use Prim.Native.Nat.{ℕ, ◌+◌, ◌*◌}
use mathlib.Core.Path.{◌≡◌}
use Rattle.pattern_file.specs.File.{face_at}
use Rattle.store.specs.Store.{held}
use Rattle.store_read.proofs.Laws.{faces_none, faces_step}
use Rattle.store_read.proofs.read_faces.Goals as goal

pub loop-k-init : goal.loop-k-init
loop-k-init c = λ spans. faces_none (held c.args.t.now spans) (λ (j : ℕ). face_at c.args.s.now (c.args.at + 4 * j))

pub loop-k-preserved : goal.loop-k-preserved
loop-k-preserved c = λ spans. faces_step (held c.args.t.now spans) (λ (j : ℕ). face_at c.args.s.now (c.args.at + 4 * j)) c.loop-k.k _ _ _ (c.loop-k.invariant spans) c.face_at.ensures (c.store_face.ensures spans)

pub returns : goal.returns
returns c = let e : c.loop-k.k ≡ c.args.n = omega arith in
    λ spans. rw e at (c.loop-k.invariant spans)
