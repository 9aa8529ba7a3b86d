use native.Mathlib.Omega.{arith}
use mathlib.Core.Path.{sym}
use Rattle.pairs.proofs.Loops.{pairing_all, pairing_long, pairing_next, pairing_room, pairing_start}
use Rattle.pairs.proofs.distinct.Goals as goal

pub loop-l-init : goal.loop-l-init
loop-l-init c = pairing_start _ _ _ c.requires.by_index c.requires.listings_in_bounds

pub slice_bounds-add_pair-end : goal.slice_bounds-add_pair-end
slice_bounds-add_pair-end c = sym c.loop-l.invariant.marked.long

pub add_pair-at-requires-clause-listed : goal.add_pair-at-requires-clause-listed
add_pair-at-requires-clause-listed c = let loop = c.loop-l in
    loop.invariant.listed _ (omega arith)

pub add_pair-at-requires-clause-marks_len : goal.add_pair-at-requires-clause-marks_len
add_pair-at-requires-clause-marks_len c = let loop = c.loop-l in
    (loop.invariant.marked.long, pairing_room loop.invariant (omega arith))

pub loop-l-preserved : goal.loop-l-preserved
loop-l-preserved c = let add-pair = c.add_pair-at in
    pairing_next c.loop-l.invariant (omega arith) _ _ _ add-pair.ensures.marks_after add-pair.ensures.out_after add-pair.ensures.value

pub shape_of-out : goal.shape_of-out
shape_of-out c = pairing_long c.loop-l.invariant

pub returns-clause-out_after : goal.returns-clause-out_after
returns-clause-out_after c = let p = pairing_all c.loop-l.invariant (omega arith) in p.0

pub returns-clause-value : goal.returns-clause-value
returns-clause-value c = let p = pairing_all c.loop-l.invariant (omega arith) in p.1
