-- Each branch writes the text that the definition picks.
use native.Mathlib.Omega.{arith}
use Rattle.lines.proofs.Bounds.{refused_short}
use Rattle.lines.proofs.Steps.{accepted_is, put_as, refused_is}
use Rattle.lines.proofs.put_solid.Goals as goal

pub returns-then-accepted : goal.returns-then-accepted
returns-then-accepted c = let p = put_as _ _ _ _ (accepted_is _ _ _ c.if-accepted.true) c.put_text.ensures in
    (p.0, p.1, omega (arith, c.put_text.ensures.1))

pub returns : goal.returns
returns c = let pre = c.requires in let p = put_as _ _ _ _ (refused_is _ _ _ c.if-accepted.false) c.put_refused.ensures in
    (p.0, p.1, omega (arith, c.put_refused.ensures.1, refused_short _ _ pre.0 pre.1))
