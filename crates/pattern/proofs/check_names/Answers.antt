use mathlib.Core.Path.{ap, refl, sym}
use native.Mathlib.Omega.{arith}
use Rattle.errors.proofs.Laws.{passed_all, passed_next, passed_start, passed_stop}
use Rattle.errors.specs.Faults.{first}
use Rattle.pattern.proofs.Laws.{a_name, no_name}
use Rattle.pattern.specs.Checks.{name_faults}
use Rattle.pattern.proofs.check_names.Goals as goal

pub loop-k-init : goal.loop-k-init
loop-k-init c = passed_start (name_faults _ _) 0 _ 0

pub returns-then-from-names : goal.returns-then-from-names
returns-then-from-names c =
    sym (passed_stop (name_faults _ _) 0 _ 0 _ c.loop-k.k _ c.loop-k.invariant c.loop-k-test.true refl (omega arith) _ (no_name _ _ _ _ (omega arith)))

pub loop-k-preserved : goal.loop-k-preserved
loop-k-preserved c =
    passed_next (name_faults _ _) 0 _ 0 _ c.loop-k.k _ c.loop-k.invariant c.loop-k-test.true refl (omega arith) (a_name _ _ _ _ (omega arith))

pub returns : goal.returns
returns c = ap first (sym (passed_all (name_faults _ _) 0 _ 0 _ c.loop-k.invariant c.loop-k-test.false))
