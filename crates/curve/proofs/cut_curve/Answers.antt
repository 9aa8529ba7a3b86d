use Rattle.std.specs.Prelude.{None, Some}
use mathlib.Core.Bool.{false, true}
use mathlib.Core.Path.{◌≡◌}
use lib.Ieee.{Float}
use Rattle.curve.specs.Curves.{back_half, cut_curve, front_half, refuses}
use Rattle.curve.specs.declared.Parameter.{Parameter}
use Rattle.curve.specs.declared.Parameter.TheVariants.{At, Nowhere}
use Rattle.edge.specs.declared.Curve.{Curve}
use Rattle.curve.proofs.cut_curve.Goals as goal

nowhere : (k : Curve) (at : Parameter) → at ≡ Nowhere → None ≡ cut_curve k at
nowhere k at e = rw e

refused : (k : Curve) (at : Parameter) (t : Float) → at ≡ At t → refuses k t ≡ true → None ≡ cut_curve k at
refused k at t e h = rw (e, h)

cut : (k : Curve) (at : Parameter) (t : Float) → at ≡ At t → refuses k t ≡ false → (Some (front_half k t, back_half k t)) ≡ cut_curve k at
cut k at t e h = rw (e, h)

pub returns-in-Nowhere : goal.returns-in-Nowhere
returns-in-Nowhere c = nowhere _ _ c.in-Nowhere.is
