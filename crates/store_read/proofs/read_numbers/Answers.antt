use native.Mathlib.Omega.{arith}
use Prim.Native.Nat.{ℕ, ◌+◌, ◌*◌}
use mathlib.Core.Path.{◌≡◌}
use Rattle.words.specs.Words.{le16}
use Rattle.store_read.proofs.Laws.{put_at, put_none}
use Rattle.store_read.proofs.read_numbers.Goals as goal

pub loop-k-init : goal.loop-k-init
loop-k-init c = put_none c.args.t.now (λ (j : ℕ). le16 c.args.s.now (c.args.at + 2 * j)) c.args.to

pub loop-k-preserved : goal.loop-k-preserved
loop-k-preserved c = rw (c.loop-k.invariant, c.u16_at.ensures) (put_at c.args.t.now (λ (j : ℕ). le16 c.args.s.now (c.args.at + 2 * j)) c.args.to c.loop-k.k)

pub returns : goal.returns
returns c = let e : c.loop-k.k ≡ c.args.n = omega arith in
    (c.tables_known.ensures, rw e at c.loop-k.invariant)
