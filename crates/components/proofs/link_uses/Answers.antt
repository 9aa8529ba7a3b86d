use mathlib.Core.Path.{◌∙◌, refl}
use native.Mathlib.Omega.{arith}
use Rattle.components.proofs.Linking.{linking_all, linking_fits, linking_next, linking_start, linking_within}
use Rattle.components.proofs.link_uses.Goals as goal

pub loop-k-init : goal.loop-k-init
loop-k-init c = (linking_start _ _ _ c.requires.0 _ _ (rw c.requires.1 at c.args.groups.now.forest), refl)

pub overflow_add-at : goal.overflow_add-at
overflow_add-at c = omega (arith, linking_fits _ _ _ c.requires.0 c.loop-k.invariant.0 (omega arith) c.from-m.ensures)

pub offset_bounds-uses-at : goal.offset_bounds-uses-at
offset_bounds-uses-at c = omega (arith, linking_fits _ _ _ c.requires.0 c.loop-k.invariant.0 (omega arith) c.from-m.ensures)

pub slice_bounds-join_part-end : goal.slice_bounds-join_part-end
slice_bounds-join_part-end c = linking_fits _ _ _ c.requires.0 c.loop-k.invariant.0 (omega arith) c.from-m.ensures

pub join_part-requires : goal.join_part-requires
join_part-requires c = rw (c.loop-k.invariant.1, c.requires.1) (linking_within _ _ _ c.requires.0 c.loop-k.invariant.0 (omega arith) c.from-m.ensures, omega arith)

pub overflow_add-at-in-loop-k : goal.overflow_add-at-in-loop-k
overflow_add-at-in-loop-k c = omega (arith, linking_fits _ _ _ c.requires.0 c.loop-k.invariant.0 (omega arith) c.from-m.ensures)

pub loop-k-preserved : goal.loop-k-preserved
loop-k-preserved c = (linking_next _ _ _ c.requires.0 c.loop-k.invariant.0 (omega arith) c.from-m.ensures (c.join_part.ensures.0, c.join_part.ensures.1), c.join_part.ensures.2 ∙ c.loop-k.invariant.1)

pub returns : goal.returns
returns c = let p = linking_all _ _ _ c.requires.0 c.loop-k.invariant.0 (omega arith) in (p.0, p.1, c.loop-k.invariant.1)
