-- The part lies inside, or would pass the end.
use native.Mathlib.Omega.{arith}
use Rattle.wire.proofs.Laws.{outline_part}
use Rattle.wire.proofs.outline.Goals as goal

pub returns-then-n-uses : goal.returns-then-n-uses
returns-then-n-uses c = let args = c.args in outline_part args.uses.now args.start args.n (omega arith)
