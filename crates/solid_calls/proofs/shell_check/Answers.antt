-- The listings, from their places; the rest from the figures.
use native.Mathlib.Omega.{arith}
use Rattle.reports.proofs.Columned.{listings_count, shell_inside, shell_listed}
use Rattle.solid_calls.proofs.Solids.{errors_found}
use Rattle.solid_calls.proofs.shell_check.Goals as goal

pub offset_bounds-columns-n : goal.offset_bounds-columns-n
offset_bounds-columns-n c = omega (arith, shell_inside c.args.columns.now.made c.requires)

pub bounds-columns-n : goal.bounds-columns-n
bounds-columns-n c = omega (arith, shell_inside c.args.columns.now.made c.requires)

pub overflow_add-end : goal.overflow_add-end
overflow_add-end c = omega (arith, shell_inside c.args.columns.now.made c.requires)

pub offset_bounds-columns-n-2 : goal.offset_bounds-columns-n-2
offset_bounds-columns-n-2 c = omega (arith, shell_inside c.args.columns.now.made c.requires)

pub bounds-columns-n-2 : goal.bounds-columns-n-2
bounds-columns-n-2 c = omega (arith, shell_inside c.args.columns.now.made c.requires)

pub overflow_sub-end : goal.overflow_sub-end
overflow_sub-end c = (shell_listed c.args.columns.now.made c.requires).0

pub returns : goal.returns
returns c spans ok = errors_found _ _ _ (listings_count c.args.columns.now.made c.requires spans ok) (c.condition_in-condition.ensures spans ok) (c.put_groups-g.ensures spans ok).counts c.check_shell.ensures
