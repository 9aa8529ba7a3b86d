-- The wire that was stored.
use mathlib.Core.Path.{refl}
use native.Mathlib.Omega.{arith}
use Rattle.job_edits.proofs.Edits.{wire_is}
use Rattle.job_edits.proofs.put_wire.Goals as goal

pub returns : goal.returns
returns c = wire_is c.args.v.now c.args.wire.now _ _ c.requires.0 (omega arith) refl c.put_saturated.ensures
