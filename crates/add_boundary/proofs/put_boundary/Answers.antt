-- The uses of the face are stored, then the wire.
use native.Mathlib.Omega.{arith}
use lib.ListN.{length}
use Rattle.add_boundary.specs.Boundary.{stored_as}
use Rattle.lists.proofs.Sets.{sets_then}
use Rattle.add_boundary.proofs.put_boundary.Goals as goal

pub returns : goal.returns
returns c = let args = c.args in
    sets_then args.out.now 0 args.own.now (stored_as args.reversed args.wire.now) (length args.own.now) (omega arith) c.copy_to.ensures c.put_stored.ensures
