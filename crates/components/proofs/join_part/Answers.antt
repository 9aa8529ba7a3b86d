use mathlib.Core.Path.{◌∙◌, refl}
use native.Mathlib.Omega.{arith}
use Rattle.components.proofs.Linking.{member_all, member_next}
use Rattle.groups.proofs.All.{joins_start}
use Rattle.components.proofs.join_part.Goals as goal

pub loop-u-init : goal.loop-u-init
loop-u-init c = (joins_start _ _ _ _ _ c.args.groups.now.forest, refl)

pub join-requires : goal.join-requires
join-requires c = let pre = c.requires in
    rw c.loop-u.invariant.1 (omega (arith, pre.0 c.loop-u.u-index (omega arith), c.from.ensures), pre.1)

pub loop-u-preserved : goal.loop-u-preserved
loop-u-preserved c = let joined = c.join.ensures in
    (member_next _ c.args.part.now c.args.member c.requires.0 c.requires.1 c.loop-u.invariant.0 (omega arith) c.from.ensures (joined.parents_after, joined.sizes_after), joined.count_after ∙ c.loop-u.invariant.1)

pub returns : goal.returns
returns c = let p = member_all _ c.args.part.now c.args.member c.requires.0 c.requires.1 c.loop-u.invariant.0 (omega arith) in (p.0, p.1, c.loop-u.invariant.1)
