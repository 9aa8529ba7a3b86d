use mathlib.Core.Path.{◌∙◌, ap}
use native.Mathlib.Omega.{arith}
use Rattle.edge.specs.Uses.{front_of}
use Rattle.lists.proofs.Laws.{length_split}
use Rattle.lists.proofs.Split.{walk_fits, walk_next, walk_start}
use Rattle.connected.proofs.Loops.{first_inside, first_use_lem, writing_all, writing_next, writing_start}
use Rattle.connected.proofs.firsts_of.Goals as goal

pub loop-k-init : goal.loop-k-init
loop-k-init c = (walk_start _, writing_start _ _ _ _ (omega (arith, c.requires.0.few, length_split c.args.lens.now c.args.uses.now)))

pub offset_bounds-uses-at : goal.offset_bounds-uses-at
offset_bounds-uses-at c = let pre = c.requires in
    omega (arith, first_inside _ _ pre.0 _ _ c.loop-k.invariant.0 (omega arith), pre.1.few)

pub bounds-uses-at : goal.bounds-uses-at
bounds-uses-at c = first_inside _ _ c.requires.0 _ _ c.loop-k.invariant.0 (omega arith)

pub point_of-requires : goal.point_of-requires
point_of-requires c = let pre = c.requires in
    pre.1.each _ (first_inside _ _ pre.0 _ _ c.loop-k.invariant.0 (omega arith))

pub overflow_add-at : goal.overflow_add-at
overflow_add-at c = let pre = c.requires in
    omega (arith, walk_fits _ _ _ _ c.loop-k.invariant.0 (omega arith) c.from-at.ensures, pre.0.summed, pre.1.few)

pub loop-k-preserved : goal.loop-k-preserved
loop-k-preserved c = let loop = c.loop-k in
    let long = length_split c.args.lens.now c.args.uses.now in
    let first = ap (front_of c.args.ends.now.fronts.now c.args.ends.now.backs.now) (first_use_lem _ _ c.requires.0 _ _ loop.invariant.0 (omega arith)) in
    (walk_next _ _ _ _ loop.invariant.0 (omega arith) c.from-at.ensures, writing_next _ _ _ _ _ _ loop.invariant.1 _ (omega (arith, long)) (c.point_of.ensures ∙ first))

pub returns : goal.returns
returns c = let args = c.args in
    writing_all _ _ _ _ _ _ c.loop-k.invariant.1 (omega (arith, length_split args.lens.now args.uses.now))
