use native.Mathlib.Omega.{arith}
use Rattle.components.proofs.Loops.{putting_all, putting_long, putting_next, putting_room, putting_start, root_at, roots_long, roots_room}
use Rattle.components.proofs.put_roots.Goals as goal

pub loop-k-init : goal.loop-k-init
loop-k-init c = putting_start _ _ _ (roots_room _ _ _ _ c.requires.1)

pub overflow_add-first : goal.overflow_add-first
overflow_add-first c = omega (arith, c.requires.0, c.args.groups.now.forest.few)

pub overflow_cast-out : goal.overflow_cast-out
overflow_cast-out c = omega (arith, c.root.ensures.low, c.args.groups.now.forest.few)

pub bounds-out-k : goal.bounds-out-k
bounds-out-k c = let args = c.args in
    omega (arith, putting_room _ _ _ _ _ c.loop-k.invariant (omega (arith, roots_long args.groups.now.parents args.first args.n)))

pub loop-k-preserved : goal.loop-k-preserved
loop-k-preserved c = putting_next _ _ _ _ _ c.loop-k.invariant (omega (arith, roots_long c.args.groups.now.parents c.args.first c.args.n)) _ _ (omega arith) (root_at _ _ _ c.loop-k.k (omega arith) _ c.root.ensures.value)

pub shape_of-out : goal.shape_of-out
shape_of-out c = putting_long _ _ _ _ _ c.loop-k.invariant

pub returns : goal.returns
returns c = let args = c.args in
    putting_all _ _ _ _ _ c.loop-k.invariant (omega (arith, roots_long args.groups.now.parents args.first args.n))
