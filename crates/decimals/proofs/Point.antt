-- The bytes before the first that passes a test.
use Rattle.std.proofs.Common.{◌≡◌, ℕ, Bool, List, length, take, sym}
use Rattle.std.specs.List.{position}
use Rattle.std.specs.Option.{unwrap_or}
use Rattle.std.specs.declared.option.Option.{Option}
use Rattle.std.specs.declared.option.Option.TheVariants.{None, Some}
use Rattle.text.proofs.Words.{found_at, found_none, take_before}
use Rattle.text.specs.Text.{before}
use mathlib.Core.Path.{refl}

module _ (q : ℕ → Bool) (w : List ℕ) where
  pub before_take : before q w ≡ take (length (before q w)) w
  before_take = sym (take_before q w)

  -- how many they are, by a search
  pub placed : {r : Option ℕ} → r ≡ position q w → unwrap_or r (length w) ≡ length (before q w)
  placed {r = None} is = found_none q w is refl
  placed {r = Some n} is = (found_at q w is refl).0
