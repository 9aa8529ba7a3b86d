-- Texts written one after the other, and which text each branch writes.
use Prim.Native.Nat.{◌%◌, ◌+◌, ℕ}
use mathlib.Core.Bool.{Bool, false, true}
use mathlib.Core.List.{List, [], ◌++◌, ◌∷◌, append_assoc}
use mathlib.Core.Path.{◌∙◌, ◌≡◌, ap, refl}
use native.Mathlib.Numerals.{add-one}
use native.Mathlib.Omega.{arith}
use lib.Dec.{leb}
use lib.ListN.{length, length-append, set}
use Rattle.lists.proofs.Sets.{Put, put_then}
use Rattle.lists.specs.Lists.{pick}
use Rattle.output.specs.Text.{ascii, decimal, field}
use Rattle.lines.specs.Lines.{signed, solid_line}
use Rattle.lines.specs.Parts.{connected_line, refused_line}

-- a text, and a byte after it
pub put_byte : (l : List ℕ) (at : ℕ) (xs : List ℕ) (out : List ℕ) (end b : ℕ) → Put l at xs out end → Put l at (xs ++ (b ∷ [])) (set out end b) (end + 1)
put_byte l at xs out end b p = put_then l at xs (b ∷ []) out (set out end b) end (end + 1) p (refl, refl)

-- a text that is another by its definition
pub put_as : (l : List ℕ) (at : ℕ) {xs ys : List ℕ} (out : List ℕ) (end : ℕ) → ys ≡ xs → Put l at xs out end → Put l at ys out end
put_as l at out end e p = rw e p

-- a byte, and a text after it
pub put_after : (l : List ℕ) (at b : ℕ) (xs out : List ℕ) (end : ℕ) → Put (set l at b) (at + 1) xs out end → Put l at (b ∷ xs) out end
put_after l at b xs out end p = (rw add-one at p.0, omega (arith, p.1))

module _ (u : ℕ) {m sign : ℕ} (number : m ≡ u % 32768) (is : sign ∷ [] ≡ pick (leb 32768 u) (ascii "-") (ascii "+")) where
  signed_is : signed u ≡ decimal m ++ (sign ∷ [])
  unfolding signed
  signed_is = rw (number, is)

  pub signed_long : length (signed u) ≡ length (decimal m) + 1
  signed_long = ap length signed_is ∙ length-append (decimal m) (sign ∷ [])

  pub put_sign : (l : List ℕ) (at : ℕ) (out : List ℕ) (end : ℕ) → Put l at (decimal m) out end → Put l at (signed u) (set out end sign) (end + 1)
  put_sign l at out end p = rw signed_is (put_byte l at (decimal m) out end sign p)

-- whether a shell is connected
pub yes_is : (c : Bool) → c ≡ true → connected_line c ≡ ascii "connected yes\n"
yes_is c e = rw e

pub no_is : (c : Bool) → c ≡ false → connected_line c ≡ ascii "connected no\n"
no_is c e = rw e

-- the text of a solid
pub accepted_is : (a : Bool) (number shell : ℕ) → a ≡ true → solid_line a number shell ≡ ascii "solid accepted\n"
unfolding solid_line
accepted_is a number shell e = rw e

pub refused_is : (a : Bool) (number shell : ℕ) → a ≡ false → solid_line a number shell ≡ refused_line number shell
unfolding solid_line field
refused_is a number shell e = rw e (append_assoc (field "solid refused " number) (field " shell " shell) (ascii "\n"))
