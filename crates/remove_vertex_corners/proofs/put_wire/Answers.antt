use native.Mathlib.Omega.{arith}
use mathlib.Core.Path.{refl}
use Rattle.remove_vertex_corners.proofs.Wires.{written_first, written_last, written_other}
use Rattle.remove_vertex_corners.proofs.put_wire.Goals as goal

pair : {A B : Type 0} → A → B → A × B
pair a b = (a, b)

pub returns-then-w-e-clause-out_after : goal.returns-then-w-e-clause-out_after
returns-then-w-e-clause-out_after c = let p = written_last _ _ _ c.args.e _ _ _ _ _ _ _ c.if-w-e.true (pair c.put_joined.ensures.out_after c.put_joined.ensures.value) in p.0

pub returns-then-w-e-clause-value : goal.returns-then-w-e-clause-value
returns-then-w-e-clause-value c = let p = written_last _ _ _ c.args.e _ _ _ _ _ _ _ c.if-w-e.true (pair c.put_joined.ensures.out_after c.put_joined.ensures.value) in p.1

pub returns-then-w-e-2-clause-out_after : goal.returns-then-w-e-2-clause-out_after
returns-then-w-e-2-clause-out_after c = let p = written_first _ _ _ c.args.e _ _ _ _ _ _ _ c.if-w-e.false c.if-w-e-2.true c.requires.2 (pair c.put_joined-then-w-e-2.ensures.out_after c.put_joined-then-w-e-2.ensures.value) in p.0

pub returns-then-w-e-2-clause-value : goal.returns-then-w-e-2-clause-value
returns-then-w-e-2-clause-value c = let p = written_first _ _ _ c.args.e _ _ _ _ _ _ _ c.if-w-e.false c.if-w-e-2.true c.requires.2 (pair c.put_joined-then-w-e-2.ensures.out_after c.put_joined-then-w-e-2.ensures.value) in p.1

pub returns-clause-out_after : goal.returns-clause-out_after
returns-clause-out_after c = let p = written_other _ _ _ c.args.e _ _ _ _ _ _ _ c.if-w-e.false c.if-w-e-2.false (c.copy_to.ensures, (refl, omega arith)) in p.0

pub returns-clause-value : goal.returns-clause-value
returns-clause-value c = let p = written_other _ _ _ c.args.e _ _ _ _ _ _ _ c.if-w-e.false c.if-w-e-2.false (c.copy_to.ensures, (refl, omega arith)) in p.1
