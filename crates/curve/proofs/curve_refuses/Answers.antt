use mathlib.Core.Bool.{Bool, ◌||◌, false, not, true}
use mathlib.Core.Path.{◌∙◌, ◌≡◌, refl, sym}
use lib.Ieee.{add, binary64, lt, sub}
use Rattle.curve.proofs.Finite.{self_difference}
use Rattle.curve.specs.Curves.{finite, refuses, tolerance}
use Rattle.curve.proofs.curve_refuses.Goals as goal

first : (a b : Bool) → a ≡ true → true ≡ (a || b)
first true b h = refl
first false b h = cc

second : (a b c : Bool) → b ≡ true → true ≡ (a || (b || c))
second true b c h = refl
second false b c h = first b c h

third : (a b c : Bool) → a ≡ false → b ≡ false → c ≡ (a || (b || c))
third false false c p q = refl
third true b c p q = cc
third false true c p q = cc

pub returns-then-t : goal.returns-then-t
unfolding refuses
returns-then-t c = first (not (finite c.args.t)) _ (sym (self_difference c.args.t) ∙ c.if-t.true)

pub returns-then-t-k : goal.returns-then-t-k
unfolding refuses
returns-then-t-k c = let args = c.args in
    second (not (finite args.t)) (lt _ (add binary64 _ tolerance)) (lt (sub binary64 args.k.t1 tolerance) args.t) c.if-t-k.true

pub returns : goal.returns
unfolding refuses
returns c = third (not (finite c.args.t)) (lt _ (add binary64 _ tolerance)) (lt (sub binary64 _ tolerance) _) (sym (self_difference _) ∙ c.if-t.false) c.if-t-k.false
