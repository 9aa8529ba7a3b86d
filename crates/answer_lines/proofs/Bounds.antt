-- How long wires in a line are, and the line of a refused job by its branches.
use Prim.Native.Nat.{◌*◌, ◌+◌, ◌≤◌, ℕ}
use mathlib.Core.List.{List, [], ◌++◌, ◌∷◌}
use mathlib.Core.Path.{◌≡◌, ap, refl}
use native.Mathlib.Nat.{mul-suc}
use native.Mathlib.Omega.{arith}
use lib.ListN.{drop, length, length-append, take, take-append-drop}
use lib.Seq.{sets}
use borrow.Author.Tests.{ne_eqb}
use Rattle.lines.proofs.Bounds.{items_short}
use Rattle.lines.specs.Lines.{number_line, signed}
use Rattle.lines.specs.Parts.{word_number}
use Rattle.lists.proofs.Sets.{Put}
use Rattle.lists.specs.Lists.{flat, split}
use Rattle.output.specs.Text.{ascii, decimal, digits, field}
use Rattle.answer_lines.specs.AnswerLines.{refused_text, wire_text, wires_text}

-- five bytes for each wire, and at most seven for each use
pub wires_short : (lens us : List ℕ) → length (wires_text (split lens us)) ≤ 5 * length lens + 7 * length us
unfolding wires_text flat split
wires_short [] us = omega arith
wires_short (n ∷ ns) us =
    omega (
      arith,
      wires_short ns (drop n us),
      items_short (take n us),
      length-append (wire_text (take n us)) (wires_text (split ns (drop n us))),
      mul-suc 5 (length ns),
      ap length (take-append-drop n us),
      length-append (take n us) (drop n us),
    )

-- what a function that writes a text from the first place on owes
pub put_front : (l : List ℕ) {xs ys : List ℕ} (out : List ℕ) (r : ℕ) → ys ≡ xs → Put l 0 xs out r → (out ≡ sets l 0 ys) × (r ≡ length ys)
put_front l out r e p = rw e (p.0, omega (arith, p.1))

pub placed_is : (outcome number body place : ℕ) → outcome ≡ 1
    → refused_text outcome number body place ≡ (ascii "refused " ++ decimal number) ++ (ascii " body " ++ decimal body) ++ word_number (ascii " record ") place
unfolding refused_text number_line field
placed_is outcome number body place e = rw e

pub plain_is : (outcome number body place : ℕ) → (outcome ≡ 1 → ⊥) → refused_text outcome number body place ≡ word_number (ascii "refused ") number
unfolding refused_text number_line field
plain_is outcome number body place e = rw (ne_eqb outcome 1 e)

-- examples
wires_of_lem : wires_text ((3 ∷ 32772 ∷ []) ∷ [] ∷ (0 ∷ []) ∷ []) ≡ ascii " wire 3+ 4- wire wire 0+"
unfolding wires_text signed decimal digits flat
wires_of_lem = refl

placed_of : refused_text 1 5 2 7 ≡ ascii "refused 5 body 2 record 7\n"
unfolding refused_text number_line field decimal digits
placed_of = refl

plain_of : refused_text 2 31 0 0 ≡ ascii "refused 31\n"
unfolding refused_text number_line field decimal digits
plain_of = refl
