-- A point where a use is kept begins an outline; any other adds nothing.
use mathlib.Core.Path.{refl}
use native.Mathlib.Omega.{arith}
use Rattle.glue_walk.proofs.Chaining.{bare_laid, bare_left, begins, length_fits, outline_laid, outline_left, outline_room, place_left}
use Rattle.glue_walk.proofs.chain_at.Goals as goal

pub returns-then-kept-q-clause-laid : goal.returns-then-kept-q-clause-laid
returns-then-kept-q-clause-laid c = bare_laid _ _ _ _ _ _ c.requires.room _ c.requires.q_in_bounds c.if-kept-q.true

pub returns-then-kept-q-clause-kept_after : goal.returns-then-kept-q-clause-kept_after
returns-then-kept-q-clause-kept_after c = bare_left _ _ _ _ _ _ c.requires.room _ c.requires.q_in_bounds c.if-kept-q.true

pub returns-then-kept-q-clause-room_2 : goal.returns-then-kept-q-clause-room_2
returns-then-kept-q-clause-room_2 c = c.requires.room

pub follow_from-s-requires : goal.follow_from-s-requires
follow_from-s-requires c = begins _ _ _ _ _ _ c.requires.room _ c.requires.q_in_bounds c.if-kept-q.false

pub overflow_cast-lens : goal.overflow_cast-lens
overflow_cast-lens c = let h = length_fits _ _ _ _ _ _ c.requires.room _ c.requires.q_in_bounds c.if-kept-q.false _ _ _ c.follow_from-s.ensures in omega (arith, h)

pub bounds-lens-k : goal.bounds-lens-k
bounds-lens-k c = place_left _ _ _ _ _ _ c.requires.room _ c.requires.q_in_bounds c.if-kept-q.false

pub returns-clause-laid : goal.returns-clause-laid
returns-clause-laid c = outline_laid _ _ _ _ _ _ c.requires.room _ c.requires.q_in_bounds c.if-kept-q.false _ _ _ c.follow_from-s.ensures _ _ refl refl refl

pub returns-clause-kept_after : goal.returns-clause-kept_after
returns-clause-kept_after c = outline_left _ _ _ _ _ _ c.requires.room _ c.requires.q_in_bounds c.if-kept-q.false _ _ _ c.follow_from-s.ensures

pub returns-clause-room_2 : goal.returns-clause-room_2
returns-clause-room_2 c = outline_room _ _ _ _ _ _ c.requires.room _ c.requires.q_in_bounds c.if-kept-q.false _ _ _ c.follow_from-s.ensures _ _ refl refl refl c.follow_from-s.auto.kept
