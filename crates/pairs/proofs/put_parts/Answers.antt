use native.Mathlib.Omega.{arith}
use Rattle.pairs.proofs.Loops.{laying_all, laying_long, laying_next, laying_room, laying_start}
use Rattle.pairs.proofs.put_parts.Goals as goal

pub loop-pair-init : goal.loop-pair-init
loop-pair-init c = laying_start _ _ _ _ _ c.requires.pairs_in_bounds

pub part-requires : goal.part-requires
part-requires c = c.requires.parted.shows _ (omega arith)

pub put_part-at-requires : goal.put_part-at-requires
put_part-at-requires c = laying_room _ _ _ _ c.loop-pair.invariant (omega arith) _ c.part.ensures

pub loop-pair-preserved : goal.loop-pair-preserved
loop-pair-preserved c = let put-part = c.put_part-at in
    laying_next _ _ _ _ c.loop-pair.invariant (omega arith) _ _ _ c.part.ensures put-part.ensures.out_after put-part.ensures.value

pub shape_of-out : goal.shape_of-out
shape_of-out c = laying_long _ _ _ _ c.loop-pair.invariant

pub returns-clause-out_after : goal.returns-clause-out_after
returns-clause-out_after c = let p = laying_all _ _ _ _ c.loop-pair.invariant (omega arith) in p.0

pub returns-clause-value : goal.returns-clause-value
returns-clause-value c = let p = laying_all _ _ _ _ c.loop-pair.invariant (omega arith) in p.1
