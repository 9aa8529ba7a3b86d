use mathlib.Core.Bool.{Bool, ◌&&◌, false, true}
use mathlib.Core.Path.{◌≡◌, refl}
use lib.Ieee.{le, neg, of_bits}
use Rattle.edge.specs.Edges.{in_range, million}
use Rattle.edge.proofs.in_range.Goals as goal

both : (a b : Bool) → a ≡ true → b ≡ (a && b)
both true b p = refl
both false b p = cc

none : (a b : Bool) → a ≡ false → false ≡ (a && b)
none false b p = refl
none true b p = cc

pub returns-then-t : goal.returns-then-t
unfolding in_range of_bits neg
returns-then-t c = both (le (neg million) _) _ c.if-t.true

pub returns : goal.returns
unfolding in_range of_bits neg
returns c = none (le (neg million) _) (le _ million) c.if-t.false
