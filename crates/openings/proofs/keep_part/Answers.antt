use Prim.Native.Nat.{◌%◌, ◌/◌}
use mathlib.Core.Path.{◌∙◌, refl}
use native.Mathlib.Omega.{arith}
use lib.ListN.{get_or}
use borrow.Author.Tests.{eq-eqb, ne_eqb}
use Rattle.edge.specs.Uses.{edge_number}
use Rattle.openings.proofs.Keeping.{keeping_all, keeping_edge, keeping_even, keeping_front, keeping_odd, keeping_start, keeping_tally}
use Rattle.openings.proofs.keep_part.Goals as goal
use Rattle.openings.proofs.keep_part.Goals.{then-odd-e-eq1, else-odd-e-eq1}

pub loop-u-init : goal.loop-u-init
loop-u-init c = keeping_start _ _ _ _ _ c.requires

pub bounds-odd-e : goal.bounds-odd-e
bounds-odd-e c = keeping_tally _ _ _ _ _ c.requires _ _ c.loop-u.invariant _ (omega arith) refl

pub front_of-p-requires : goal.front_of-p-requires
front_of-p-requires c = keeping_edge _ _ _ _ _ c.requires _ _ c.loop-u.invariant _ (omega arith) refl

pub keep_at-requires : goal.keep_at-requires
keep_at-requires c = keeping_front _ _ _ _ _ c.requires _ _ c.loop-u.invariant _ (omega arith) refl _ c.front_of-p.ensures

pub shape_of-kept : goal.shape_of-kept
shape_of-kept c = c.loop-u.invariant.long

pub returns-clause-kept_after : goal.returns-clause-kept_after
returns-clause-kept_after c = keeping_all _ _ _ _ _ c.requires _ _ c.loop-u.invariant (omega arith)

pub returns-clause-holding : goal.returns-clause-holding
returns-clause-holding c = c.loop-u.invariant.holding

pub loop-u-preserved : goal.loop-u-preserved
loop-u-preserved c = let loop = c.loop-u in
    let u = get_or c.args.part.now loop.u-index 0 in
    elim c.if-odd-e-eq1.branch [
      | then-odd-e-eq1 w ↦ rw (w.kept-is ∙ w.keep_at.ensures) (keeping_odd _ _ _ _ _ c.requires _ _ loop.invariant u (omega arith) refl (eq-eqb (get_or c.args.odd.now (edge_number u) 0 / 16 % 2) 1 w.if-odd-e-eq1.true) _ w.front_of-p.ensures)
      | else-odd-e-eq1 w ↦ rw w.kept-is (keeping_even _ _ _ _ _ c.requires _ _ loop.invariant u (omega arith) refl (ne_eqb (get_or c.args.odd.now (edge_number u) 0 / 16 % 2) 1 w.if-odd-e-eq1.false))
    ]
