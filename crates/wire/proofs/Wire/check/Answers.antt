use native.Mathlib.Omega.{arith}
use Rattle.wire.proofs.Laws.{empty_wire}
use Rattle.wire.proofs.Wire.check.Goals as goal

pub returns-then-self-eq0 : goal.returns-then-self-eq0
returns-then-self-eq0 c = let w = c.args.self.now in
    record { value = empty_wire w.ends.fronts.now w.ends.backs.now w.uses.now c.if-self-eq0.true; stamp_after = omega arith }
