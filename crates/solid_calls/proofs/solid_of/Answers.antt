use Prim.Native.Nat.{ℕ}
use lib.ListN.{get_or}
use mathlib.Core.List.{List}
use mathlib.Core.Path.{◌∙◌, ap, sym}
use native.Mathlib.Omega.{arith}
use Rattle.errors.proofs.Laws.{handed_on}
use Rattle.solid_calls.proofs.Solids.{checking_all, checking_next, checking_start, checking_stops}
use Rattle.solid_calls.proofs.solid_of.Goals as goal

pub loop-n-init : goal.loop-n-init
loop-n-init c = checking_start _

pub shell_check-requires : goal.shell_check-requires
shell_check-requires c = rw (← c.counts_in-counts.ensures) c.loop-n-test.true

pub returns-in_err-in_solid : goal.returns-in_err-in_solid
returns-in_err-in_solid c =
    λ spans ok.
    handed_on _ _ c.from_residual.ensures.1
    ∙ checking_stops _ _ c.loop-n.invariant _ (ap (λ (l : List ℕ). get_or l 5 0) c.counts_in-counts.ensures) (λ spans ok. (c.args.columns.now.made.all spans ok).0) c.loop-n-test.true c.shell_check.ensures _ (sym c.in_err-in_solid.was ∙ c.in_solid.ensures) spans ok

pub loop-n-preserved : goal.loop-n-preserved
loop-n-preserved c = checking_next _ _ c.loop-n.invariant c.shell_check.ensures (sym c.in_ok-in_solid.was ∙ c.in_solid.ensures)

pub returns : goal.returns
returns c = checking_all _ _ c.loop-n.invariant _ (ap (λ (l : List ℕ). get_or l 5 0) c.counts_in-counts.ensures) (λ spans ok. (c.args.columns.now.made.all spans ok).0) (omega arith)
