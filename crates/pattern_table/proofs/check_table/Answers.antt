-- Each return is its law of the contents table.
use Rattle.std.specs.Prelude.{Err}
use Prim.Native.Nat.{ℕ}
use mathlib.Core.List.{List, []}
use mathlib.Core.Path.{◌∙◌, ◌≡◌, ap, sym}
use native.Mathlib.Omega.{arith}
use lib.ListN.{get_or}
use Rattle.errors.proofs.Laws.{accepted_none, handed_on}
use Rattle.errors.specs.Faults.{each}
use Rattle.pattern.specs.declared.Layout.{Layout}
use Rattle.lists.proofs.Flat.{get_d_tabulate}
use Rattle.pattern.specs.Checks.{count_faults}
use Rattle.pattern.specs.Contents.{layout}
use Rattle.pattern_file.specs.File.{start_of}
use Rattle.pattern_table.proofs.Laws.{counts_right, counts_wrong, too_long, too_short}
use Rattle.pattern_table.proofs.check_table.Goals as goal
use Rattle.pattern_table.proofs.check_table.Goals.{After-file_layout-lay, After-starts_of-longest}

limits_pass : (lay : Layout) → lay ≡ layout → count_faults lay.limits ≡ []
unfolding each
limits_pass lay e = rw e

first_is : (c : After-file_layout-lay) → c.file_layout-lay.result.first ≡ layout.first
first_is c = ap (λ (l : Layout). l.first) c.file_layout-lay.ensures

longest_is : (c : After-starts_of-longest) → get_or c.starts_of-longest.result 7 0 ≡ start_of layout.limits 7
longest_is c =
    ap (λ (l : List ℕ). get_or l 7 0) c.starts_of-longest.ensures ∙ get_d_tabulate 8 (start_of _) 7 0 (omega arith) ∙ rw c.file_layout-lay.ensures

pub starts_of-longest-requires : goal.starts_of-longest-requires
starts_of-longest-requires c = limits_pass _ c.file_layout-lay.ensures

pub returns-then-s-lay : goal.returns-then-s-lay
returns-then-s-lay c = too_short c.args.s.now (omega (arith, first_is (goal.at.returns-then-s-lay c).After-file_layout-lay))

pub returns-then-s-longest : goal.returns-then-s-longest
returns-then-s-longest c = too_long c.args.s.now (omega (arith, first_is (goal.at.returns-then-s-longest c).After-file_layout-lay)) (omega (arith, longest_is (goal.at.returns-then-s-longest c).After-starts_of-longest))

pub counts_of-counts-requires : goal.counts_of-counts-requires
counts_of-counts-requires c = omega (arith, first_is (goal.at.counts_of-counts-requires c).After-file_layout-lay)

pub starts_of-requires : goal.starts_of-requires
starts_of-requires c = accepted_none (count_faults _) (sym c.check_counts.ensures ∙ c.in_ok-check_counts.was)

pub check_offsets-requires-clause-in_bounds : goal.check_offsets-requires-clause-in_bounds
check_offsets-requires-clause-in_bounds c = omega (arith, first_is (goal.at.check_offsets-requires-clause-in_bounds c).After-file_layout-lay)

pub check_offsets-requires-clause-starts_value : goal.check_offsets-requires-clause-starts_value
check_offsets-requires-clause-starts_value c = rw (← c.counts_of-counts.ensures) c.starts_of.ensures

pub returns-in_err-check_counts : goal.returns-in_err-check_counts
returns-in_err-check_counts c =
    handed_on _ _ c.from_residual.ensures.1 ∙ (counts_wrong c.args.s.now (omega (arith, first_is (goal.at.returns-in_err-check_counts c).After-file_layout-lay)) (omega (arith, longest_is (goal.at.returns-in_err-check_counts c).After-starts_of-longest)) _ (rw (← c.counts_of-counts.ensures) (sym c.check_counts.ensures ∙ c.in_err-check_counts.was)))

pub returns : goal.returns
returns c = c.check_offsets.ensures ∙ counts_right c.args.s.now (omega (arith, first_is (goal.at.returns c).After-file_layout-lay)) (omega (arith, longest_is (goal.at.returns c).After-starts_of-longest)) (rw (← c.counts_of-counts.ensures) (sym c.check_counts.ensures ∙ c.in_ok-check_counts.was))
