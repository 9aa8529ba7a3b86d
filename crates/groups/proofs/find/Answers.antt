use mathlib.Core.Path.{◌∙◌, refl, sym}
use native.Mathlib.Omega.{arith}
use lib.ListN.{length}
use Rattle.groups.proofs.Climbing.{climb_root, climbs_in, climbs_up, root_up, steps_fall}
use borrow.Author.Rules.{rules}
use Rattle.groups.proofs.find.Goals as goal

pub loop-at-init : goal.loop-at-init
loop-at-init c = (c.requires, refl)

pub offset_bounds-parents-at : goal.offset_bounds-parents-at
offset_bounds-parents-at c = let h = climbs_in _ _ c.loop-at.invariant.0 in search rules

pub bounds-parents-at : goal.bounds-parents-at
bounds-parents-at c = climbs_in _ _ c.loop-at.invariant.0

pub overflow_cast-up : goal.overflow_cast-up
overflow_cast-up c = omega (arith, c.type_inv.parents c.loop-at.at)

pub loop-at-smaller : goal.loop-at-smaller
loop-at-smaller c = steps_fall _ _ c.loop-at.invariant.0 c.if-up-at.false

pub loop-at-preserved : goal.loop-at-preserved
loop-at-preserved c = let loop = c.loop-at in (climbs_up _ _ loop.invariant.0, root_up _ _ loop.invariant.0 ∙ loop.invariant.1)

pub returns : goal.returns
returns c = let args = c.args in
    sym (climb_root (length args.parents.now) args.parents.now _ c.if-up-at.true) ∙ c.loop-at.invariant.1
