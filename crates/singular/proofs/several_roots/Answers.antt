use native.Mathlib.Omega.{arith}
use Rattle.singular.proofs.Noting.{noting_all, noting_next, noting_start}
use Rattle.singular.proofs.several_roots.Goals as goal

pub loop-u-init : goal.loop-u-init
loop-u-init c = noting_start _ _ _ _ c.requires.several_value

pub note_use-any-requires : goal.note_use-any-requires
note_use-any-requires c = c.requires.by_index _ c.loop-u-test.true

pub loop-u-preserved : goal.loop-u-preserved
loop-u-preserved c = noting_next _ _ _ _ c.loop-u.invariant c.loop-u-test.true (c.note_use-any.ensures.roots_after, (c.note_use-any.ensures.several_after, c.note_use-any.ensures.unmarked))

pub returns-clause-several_after : goal.returns-clause-several_after
returns-clause-several_after c = let p = noting_all _ _ _ _ c.loop-u.invariant (omega arith) in p.0

pub returns-clause-several_after_2 : goal.returns-clause-several_after_2
returns-clause-several_after_2 c = let p = noting_all _ _ _ _ c.loop-u.invariant (omega arith) in p.1
