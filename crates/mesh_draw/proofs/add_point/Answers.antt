-- The label stands in the table up to the limit; past it points are only counted.
use native.Mathlib.Omega.{arith}
use Rattle.mesh_draw.proofs.Points.{kept_point, kept_point_over}
use Rattle.store.proofs.View.{held_full}
use Rattle.mesh_draw.proofs.add_point.Goals as goal

pub returns-then-n-lt2048 : goal.returns-then-n-lt2048
returns-then-n-lt2048 c = λ m us spans index n l k.
    let args = c.args in
    kept_point n k c.if-n-lt2048.true (held_full args.t.now spans c.tables_known.ensures).points l (c.store_label.ensures spans)

pub returns-then-n-lt999999999 : goal.returns-then-n-lt999999999
returns-then-n-lt999999999 c = λ m us spans index n l k.
    kept_point_over n k c.if-n-lt2048.false (omega arith)

pub returns-else-n-lt999999999 : goal.returns-else-n-lt999999999
returns-else-n-lt999999999 c = λ m us spans index n l k.
    kept_point_over n k c.if-n-lt2048.false (omega (arith, k.points))
