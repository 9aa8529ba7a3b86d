use Prim.Native.Nat.{◌<◌}
use mathlib.Core.Path.{◌∙◌, refl}
use native.Mathlib.Omega.{arith}
use lib.ListN.{length}
use Rattle.groups.proofs.All.{joins_start}
use Rattle.connected.proofs.Loops.{uses_end, uses_next}
use Rattle.connected.proofs.join_uses.Goals as goal

pub loop-u-init : goal.loop-u-init
loop-u-init c = (joins_start _ _ _ _ _ c.args.groups.now.forest, refl)

pub front_of-requires : goal.front_of-requires
front_of-requires c = let b = c.requires.each c.loop-u.u-index (omega arith) in (b.front, b.back)

pub back_of-requires : goal.back_of-requires
back_of-requires c = let b = c.requires.each c.loop-u.u-index (omega arith) in (omega (arith, b.front, b.back), omega (arith, b.front, b.back))

pub join-requires : goal.join-requires
join-requires c = let loop = c.loop-u in
    let h : loop.u-index < length c.args.uses.now = omega arith in
    rw loop.invariant.1 (omega (arith, c.requires.starts loop.u-index h, c.requires.ends loop.u-index h, c.front_of.ensures), omega (arith, c.requires.starts loop.u-index h, c.requires.ends loop.u-index h, c.back_of.ensures))

pub loop-u-preserved : goal.loop-u-preserved
loop-u-preserved c = (uses_next c.requires c.loop-u.invariant.0 (omega arith) c.front_of.ensures c.back_of.ensures (c.join.ensures.parents_after, c.join.ensures.sizes_after), c.join.ensures.count_after ∙ c.loop-u.invariant.1)

pub returns : goal.returns
returns c = let p = uses_end c.requires c.loop-u.invariant.0 (omega arith) in (p.0, p.1, c.loop-u.invariant.1)
