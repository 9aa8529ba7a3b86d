-- All but the last are joined with all but the first.
use Prim.Native.Nat.{◌-◌}
use mathlib.Core.Path.{refl}
use native.Mathlib.Omega.{arith}
use lib.ListN.{length}
use Rattle.connected.proofs.Loops.{next_joined, next_none, next_pairs}
use Rattle.connected.proofs.join_next.Goals as goal

pub returns-then-points-eq0 : goal.returns-then-points-eq0
returns-then-points-eq0 c = let p = next_none _ _ c.if-points-eq0.true in (p.0, p.1, refl)

pub join_all-requires : goal.join_all-requires
join_all-requires c = next_pairs _ c.args.points.now (length c.args.points.now - 1) c.requires (omega arith)

pub returns : goal.returns
returns c = let joined = c.join_all.ensures in
    let p = next_joined c.args.points.now (length c.args.points.now - 1) _ (omega arith) (joined.parents_after, joined.sizes_after) in
    (p.0, p.1, joined.count_after)
