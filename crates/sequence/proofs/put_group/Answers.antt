use mathlib.Core.Path.{refl}
use native.Mathlib.Omega.{arith}
use Rattle.sequence.proofs.Loops.{following_end, following_less, following_long, following_next, following_out, following_room, following_start}
use Rattle.sequence.proofs.put_group.Goals as goal

pub loop-j-init : goal.loop-j-init
loop-j-init c = following_start _ _ _ _ _ _ c.requires

pub bounds-out-to : goal.bounds-out-to
bounds-out-to c = following_room _ _ _ _ _ _ _ _ _ c.loop-j.invariant (omega arith)

pub loop-j-smaller : goal.loop-j-smaller
loop-j-smaller c = following_less _ _ _ _ _ _ _ _ _ c.loop-j.invariant (omega arith)

pub loop-j-preserved : goal.loop-j-preserved
loop-j-preserved c = following_next _ _ _ _ _ _ _ _ _ c.loop-j.invariant (omega arith) _ _ refl c.from-j.ensures

pub shape_of-out : goal.shape_of-out
shape_of-out c = following_long _ _ _ _ _ _ _ _ _ c.loop-j.invariant

pub returns-clause-out_after : goal.returns-clause-out_after
returns-clause-out_after c = following_out _ _ _ _ _ _ _ _ _ c.loop-j.invariant (omega arith)

pub returns-clause-value : goal.returns-clause-value
returns-clause-value c = following_end _ _ _ _ _ _ _ _ _ c.loop-j.invariant (omega arith)
