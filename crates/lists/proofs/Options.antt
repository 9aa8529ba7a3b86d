-- What is there is not nothing.
use Rattle.std.specs.Prelude.{Option, None, Some}
use mathlib.Core.Path.{◌≡◌}

module _ {A : Type 0} where
  pub some-injective : (x y : A) → Some x ≡ Some y → x ≡ y
  some-injective x y e = cc

  pub none-ne-some : (x : A) → None ≡ Some x → ⊥
  none-ne-some x e = cc

  pub some-ne-none : (x : A) → Some x ≡ None → ⊥
  some-ne-none x e = cc
