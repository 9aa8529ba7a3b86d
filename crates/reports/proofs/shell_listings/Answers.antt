-- The listings stand between the places of the shell.
use native.Mathlib.Omega.{arith}
use Rattle.reports.proofs.Columned.{listings_few, shell_inside, shell_listed}
use Rattle.reports.proofs.shell_listings.Goals as goal

pub offset_bounds-columns-n : goal.offset_bounds-columns-n
offset_bounds-columns-n c = omega (arith, shell_inside c.args.columns.now.made c.requires)

pub bounds-columns-n : goal.bounds-columns-n
bounds-columns-n c = omega (arith, shell_inside c.args.columns.now.made c.requires)

pub overflow_add-result : goal.overflow_add-result
overflow_add-result c = omega (arith, shell_inside c.args.columns.now.made c.requires)

pub offset_bounds-columns-n-2 : goal.offset_bounds-columns-n-2
offset_bounds-columns-n-2 c = omega (arith, shell_inside c.args.columns.now.made c.requires)

pub bounds-columns-n-2 : goal.bounds-columns-n-2
bounds-columns-n-2 c = omega (arith, shell_inside c.args.columns.now.made c.requires)

pub offset_bounds-listings-columns : goal.offset_bounds-listings-columns
offset_bounds-listings-columns c = omega (arith, shell_listed c.args.columns.now.made c.requires, listings_few c.args.columns.now.made c.requires)

pub slice_bounds-result-count : goal.slice_bounds-result-count
slice_bounds-result-count c = omega (arith, shell_listed c.args.columns.now.made c.requires, listings_few c.args.columns.now.made c.requires)

pub slice_bounds-result-start : goal.slice_bounds-result-start
slice_bounds-result-start c = omega (arith, shell_listed c.args.columns.now.made c.requires, listings_few c.args.columns.now.made c.requires)

pub slice_bounds-result-end : goal.slice_bounds-result-end
slice_bounds-result-end c = rw c.listings_in-listings.ensures (omega (arith, shell_listed c.args.columns.now.made c.requires, listings_few c.args.columns.now.made c.requires))
