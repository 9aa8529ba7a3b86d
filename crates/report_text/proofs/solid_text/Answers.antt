-- The two answers.
use Rattle.report_text.proofs.Texts.{reason_low}
use Rattle.solid.specs.Solid.{solid_shell}
use Prim.Native.Nat.{◌<◌}
use Rattle.report_text.proofs.solid_text.Goals as goal

pub put_solid-requires-in-Err : goal.put_solid-requires-in-Err
put_solid-requires-in-Err c = let low : solid_shell c.args.a < 100 = c.requires.0 in
    (rw c.number.ensures (reason_low c.in-Err.e.reason), rw c.in-Err.is at low, c.requires.1)

pub returns-in-Ok : goal.returns-in-Ok
returns-in-Ok c = rw c.in-Ok.is (c.put_solid.ensures.0, c.put_solid.ensures.1)

pub returns-in-Err : goal.returns-in-Err
returns-in-Err c = rw (c.in-Err.is, ← c.number.ensures) (c.put_solid-in-Err.ensures.0, c.put_solid-in-Err.ensures.1)
