-- A use whose front has one kept begins an opening; any other adds nothing.
use mathlib.Core.Path.{refl}
use native.Mathlib.Omega.{arith}
use Rattle.openings.proofs.Passes.{begins, fits, one_bare, one_passed, one_ready, space}
use Rattle.openings.proofs.walk_use.Goals as goal

pub returns-then-kept-p-clause-passed : goal.returns-then-kept-p-clause-passed
returns-then-kept-p-clause-passed c = one_bare _ _ _ _ _ _ c.requires.ready _ c.requires.u_in_bounds.1 _ c.front_of-p.ensures c.if-kept-p.true

pub returns-then-kept-p-clause-ready_2 : goal.returns-then-kept-p-clause-ready_2
returns-then-kept-p-clause-ready_2 c = c.requires.ready

pub follow_from-s-requires : goal.follow_from-s-requires
follow_from-s-requires c = begins _ _ _ _ _ _ c.requires.ready _ c.requires.u_in_bounds.1 _ c.front_of-p.ensures c.if-kept-p.false

pub overflow_cast-lens : goal.overflow_cast-lens
overflow_cast-lens c = let h = fits _ _ _ _ _ _ c.requires.ready _ c.requires.u_in_bounds.1 _ c.front_of-p.ensures c.if-kept-p.false _ _ _ c.follow_from-s.ensures in
    omega (arith, h)

pub bounds-lens-openings : goal.bounds-lens-openings
bounds-lens-openings c = space _ _ _ _ _ _ c.requires.ready _ c.requires.u_in_bounds.1 _ c.front_of-p.ensures c.if-kept-p.false

pub returns-clause-passed : goal.returns-clause-passed
returns-clause-passed c = one_passed _ _ _ _ _ _ c.requires.ready _ c.requires.u_in_bounds.1 _ c.front_of-p.ensures c.if-kept-p.false _ _ _ c.follow_from-s.ensures _ _ refl refl refl refl

pub returns-clause-ready_2 : goal.returns-clause-ready_2
returns-clause-ready_2 c = one_ready _ _ _ _ _ _ c.requires.ready _ c.requires.u_in_bounds.1 _ c.front_of-p.ensures c.if-kept-p.false _ _ _ c.follow_from-s.ensures _ _ refl refl refl refl c.follow_from-s.auto.kept
