-- The last use decides.
use Prim.Native.Nat.{◌-◌}
use native.Mathlib.Omega.{arith}
use lib.ListN.{length}
use Rattle.wire.proofs.Laws.{named_edge}
use Rattle.cut_face_outline.proofs.Laws.{last_is}
use Rattle.cut_face_outline.proofs.last_point.Goals as goal

pub back-requires : goal.back-requires
back-requires c = rw c.from_number.ensures (named_edge _ _ _ c.args.wire.now.named (length c.args.wire.now.uses.now - 1) (omega (arith, c.requires)))

pub returns : goal.returns
returns c = last_is _ _ c.args.wire.now.uses.now c.requires _ _ c.from_number.ensures c.back.ensures
