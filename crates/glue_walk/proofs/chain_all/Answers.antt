use native.Mathlib.Omega.{arith}
use Rattle.glue_walk.proofs.Chaining.{chaining_all, chaining_left, chaining_lens, chaining_next, chaining_out, chaining_start}
use Rattle.glue_walk.proofs.chain_all.Goals as goal

pub loop-q-init : goal.loop-q-init
loop-q-init c = chaining_start _ _ _ _ _ c.requires

pub chain_at-w-requires-clause-q_in_bounds : goal.chain_at-w-requires-clause-q_in_bounds
chain_at-w-requires-clause-q_in_bounds c = omega (arith, c.loop-q.invariant.long)

pub chain_at-w-requires-clause-room : goal.chain_at-w-requires-clause-room
chain_at-w-requires-clause-room c = c.loop-q.invariant.room

pub loop-q-preserved : goal.loop-q-preserved
loop-q-preserved c = chaining_next _ _ _ _ _ _ _ _ _ _ c.loop-q.invariant (omega (arith, c.loop-q.invariant.long)) _ _ _ _ c.chain_at-w.ensures.laid c.chain_at-w.ensures.kept_after c.chain_at-w.ensures.room_2 c.chain_at-w.auto.kept

pub shape_of-kept : goal.shape_of-kept
shape_of-kept c = c.loop-q.invariant.long

pub shape_of-out : goal.shape_of-out
shape_of-out c = chaining_out _ _ _ _ _ _ _ _ _ _ c.loop-q.invariant

pub shape_of-lens : goal.shape_of-lens
shape_of-lens c = chaining_lens _ _ _ _ _ _ _ _ _ _ c.loop-q.invariant

pub returns-clause-laid : goal.returns-clause-laid
returns-clause-laid c = let inv = c.loop-q.invariant in
    chaining_all _ _ _ _ _ _ _ _ _ _ inv (omega arith)

pub returns-clause-room : goal.returns-clause-room
returns-clause-room c = let inv = c.loop-q.invariant in
    inv.room

pub returns-clause-kept_after : goal.returns-clause-kept_after
returns-clause-kept_after c = let inv = c.loop-q.invariant in
    chaining_left _ _ _ _ _ _ _ _ _ _ inv (omega arith)
