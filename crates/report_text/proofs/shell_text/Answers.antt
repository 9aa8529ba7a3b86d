-- The figures of the shell, and the lines that they give.
use native.Mathlib.Bridge.{le_prop}
use native.Mathlib.Nat.{ℕ_set}
use native.Mathlib.Omega.{arith}
use Prim.Native.Nat.{◌≤◌}
use Rattle.reports.proofs.Columned.{by_pattern, listings_count, shell_inside, shell_listed}
use Rattle.report_text.proofs.Texts.{figures_fit, groups_few, shelled}
use borrow.Author.Rules.{rules}
use Rattle.report_text.proofs.shell_text.Goals as goal

pub offset_bounds-columns-n : goal.offset_bounds-columns-n
offset_bounds-columns-n c = omega (arith, shell_inside c.args.columns.now.made c.requires.0)

pub bounds-columns-n : goal.bounds-columns-n
bounds-columns-n c = omega (arith, shell_inside c.args.columns.now.made c.requires.0)

pub overflow_add-end : goal.overflow_add-end
overflow_add-end c = omega (arith, shell_inside c.args.columns.now.made c.requires.0)

pub offset_bounds-columns-n-2 : goal.offset_bounds-columns-n-2
offset_bounds-columns-n-2 c = omega (arith, shell_inside c.args.columns.now.made c.requires.0)

pub bounds-columns-n-2 : goal.bounds-columns-n-2
bounds-columns-n-2 c = omega (arith, shell_inside c.args.columns.now.made c.requires.0)

pub put_groups-g-requires-clause-n_bound : goal.put_groups-g-requires-clause-n_bound
put_groups-g-requires-clause-n_bound c = c.requires.0

pub put_groups-g-requires-clause-in_bounds : goal.put_groups-g-requires-clause-in_bounds
put_groups-g-requires-clause-in_bounds c = search rules

pub slice_bounds-put_shell-end-3 : goal.slice_bounds-put_shell-end-3
slice_bounds-put_shell-end-3 c = let few : (c.put_groups-g.result.members ≤ 512) × (c.put_groups-g.result.components ≤ 512) × (c.put_groups-g.result.singular ≤ 2048) = by_pattern c.args.columns.now.made (hlevel le_prop)
    (λ spans s e. groups_few _ s _ c.requires.0 (c.put_openings-o.ensures.of_tables spans s.ok) (c.put_groups-g.ensures spans s.ok) c.put_openings-o.ensures.used_bound) in
    omega (arith, few)

pub slice_bounds-put_shell-end-4 : goal.slice_bounds-put_shell-end-4
slice_bounds-put_shell-end-4 c = let few : (c.put_groups-g.result.members ≤ 512) × (c.put_groups-g.result.components ≤ 512) × (c.put_groups-g.result.singular ≤ 2048) = by_pattern c.args.columns.now.made (hlevel le_prop)
    (λ spans s e. groups_few _ s _ c.requires.0 (c.put_openings-o.ensures.of_tables spans s.ok) (c.put_groups-g.ensures spans s.ok) c.put_openings-o.ensures.used_bound) in
    omega (arith, few)

pub slice_bounds-put_shell-end-5 : goal.slice_bounds-put_shell-end-5
slice_bounds-put_shell-end-5 c = let few : (c.put_groups-g.result.members ≤ 512) × (c.put_groups-g.result.components ≤ 512) × (c.put_groups-g.result.singular ≤ 2048) = by_pattern c.args.columns.now.made (hlevel le_prop)
    (λ spans s e. groups_few _ s _ c.requires.0 (c.put_openings-o.ensures.of_tables spans s.ok) (c.put_groups-g.ensures spans s.ok) c.put_openings-o.ensures.used_bound) in
    omega (arith, few)

pub put_shell-after-requires : goal.put_shell-after-requires
put_shell-after-requires c = by_pattern c.args.columns.now.made (hlevel (le_prop, ℕ_set))
    (λ spans s e. figures_fit _ s _ c.requires.0 (c.put_openings-o.ensures.of_tables spans s.ok) (c.put_groups-g.ensures spans s.ok) c.put_openings-o.ensures.used_bound _ _ c.requires.1)

pub overflow_sub-end : goal.overflow_sub-end
overflow_sub-end c = (shell_listed c.args.columns.now.made c.requires.0).0

pub returns-clause-of_tables : goal.returns-clause-of_tables
returns-clause-of_tables c = let w = c.put_shell-after.ensures in
    λ spans ok. shelled _ (c.args.columns.now.made.all spans ok).0 _ c.requires.0 (c.put_openings-o.ensures.of_tables spans ok) (c.put_groups-g.ensures spans ok) c.put_openings-o.ensures.used_bound (listings_count c.args.columns.now.made c.requires.0 spans ok) _ _ _ _ _ w c.check_shell.ensures

pub returns-clause-at_bound : goal.returns-clause-at_bound
returns-clause-at_bound c = let w = c.put_shell-after.ensures in
    w.2
