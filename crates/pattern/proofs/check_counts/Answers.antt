use mathlib.Core.Path.{◌≡◌, ap, refl, sym}
use native.Mathlib.Omega.{arith}
use lib.ListN.{length}
use Rattle.errors.proofs.Laws.{passed_all, passed_next, passed_start, passed_stop}
use Rattle.errors.specs.Faults.{first}
use Rattle.pattern.proofs.Laws.{over_limit, within_limit}
use Rattle.pattern.specs.Checks.{limit_faults}
use borrow.Author.Rules.{rules}
use Rattle.pattern.proofs.check_counts.Goals as goal
use Rattle.pattern.proofs.check_counts.Goals.{Start}

seven : (c : Start) → length c.args.counts ≡ 7
seven c = search rules

pub loop-b-init : goal.loop-b-init
loop-b-init c = passed_start limit_faults 0 _ 0

pub returns-then-count-lay : goal.returns-then-count-lay
returns-then-count-lay c =
    sym (passed_stop limit_faults 0 _ 0 _ c.loop-b.b _ c.loop-b.invariant (rw (seven (goal.at.returns-then-count-lay c).Start) c.loop-b-test.true) refl (omega arith) _ (over_limit _ _ (rw c.file_layout-lay.ensures at c.if-count-lay.true)))

pub loop-b-preserved : goal.loop-b-preserved
loop-b-preserved c =
    passed_next limit_faults 0 _ 0 _ c.loop-b.b _ c.loop-b.invariant (rw (seven (goal.at.loop-b-preserved c).Start) c.loop-b-test.true) refl (omega arith) (within_limit _ _ (rw c.file_layout-lay.ensures at c.if-count-lay.false))

pub returns : goal.returns
returns c = ap first (sym (passed_all limit_faults 0 _ 0 _ c.loop-b.invariant (rw (seven (goal.at.returns c).Start) c.loop-b-test.false)))
