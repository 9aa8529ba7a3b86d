use native.Mathlib.Omega.{arith}
use Prim.Native.Nat.{ℕ, ◌+◌, ◌*◌}
use mathlib.Core.Path.{◌≡◌}
use Rattle.words.specs.Words.{le32}
use Rattle.store.specs.Store.{held}
use Rattle.store_read.proofs.Laws.{points_none, points_step}
use Rattle.store_read.proofs.read_labels.Goals as goal

pub loop-k-init : goal.loop-k-init
loop-k-init c = λ spans. points_none (held c.args.t.now spans) (λ (j : ℕ). le32 c.args.s.now (c.args.at + 4 * j))

pub loop-k-preserved : goal.loop-k-preserved
loop-k-preserved c = λ spans. points_step (held c.args.t.now spans) (λ (j : ℕ). le32 c.args.s.now (c.args.at + 4 * j)) c.loop-k.k _ _ _ (c.loop-k.invariant spans) c.u32_at.ensures (c.store_label.ensures spans)

pub returns : goal.returns
returns c = let e : c.loop-k.k ≡ c.args.n = omega arith in
    λ spans. rw e at (c.loop-k.invariant spans)
