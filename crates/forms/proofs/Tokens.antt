-- Labels.
use Rattle.std.specs.Prelude.{None, Option, Some}
use Prim.Native.Nat.{◌*◌, ◌+◌, ◌<◌, ◌≤◌, ℕ}
use mathlib.Core.List.{List}
use mathlib.Core.Path.{◌∙◌, ◌≡◌}
use native.Mathlib.Omega.{arith}
use lib.ListN.{drop, length, length-drop, take}
use lib.Seq.{take_all}
use borrow.Author.Tests.{le-leb, lt-leb, ne_eqb}
use Rattle.forms.specs.Forms.{below, label, tens}
use Rattle.text.specs.Tokens.{number}

module _ (w : List ℕ) where
  pub label_short : length w ≤ 9 → label w ≡ number w
  unfolding label
  label_short h = rw (le-leb (length w) 9 h)

  pub label_long : 10 < length w → label w ≡ None
  unfolding label
  label_long h = rw (lt-leb (length w) 9 (omega arith), ne_eqb (length w) 10 (omega arith))

  -- ten digits: nine, and one
  module _ {nine : Option ℕ} (long : length w ≡ 10) (first : nine ≡ number (take 9 w)) where
    label_ten : label w ≡ below 4294967296 (tens nine (number (take 1 (drop 9 w))))
    unfolding label
    label_ten =
        let e : take 1 (drop 9 w) ≡ drop 9 w = take_all 1 (drop 9 w) (omega (arith, length-drop 9 w)) in
        rw (long, first, e)

    pub label_first : nine ≡ None → label w ≡ None
    label_first h = label_ten ∙ rw h

    module _ {m : ℕ} (value : nine ≡ Some m) {one : Option ℕ} (last : one ≡ number (take 1 (drop 9 w))) where
      pub label_last : one ≡ None → label w ≡ None
      label_last h = label_ten ∙ rw (← last, value, h)

      pub label_both : {d : ℕ} → one ≡ Some d → label w ≡ below 4294967296 (Some (m * 10 + d))
      label_both h = label_ten ∙ rw (← last, value, h)
