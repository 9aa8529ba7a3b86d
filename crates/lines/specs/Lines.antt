-- The lines that `report` prints of a shell (FORMAT 3.1). All numbers are decimal.
use Rattle.std.specs.Prelude.{ℕ, ◌%◌, Bool, List, ◌++◌, map, eqb, leb}
use Prim.Native.String.{String}
use Rattle.lists.specs.Lists.{flat, pick}
use Rattle.output.specs.Text.{ascii, decimal, field}

-- a use or listing is its number and + or -
unfoldable pub signed : ℕ → List ℕ
signed u = decimal (u % 32768) ++ pick (leb 32768 u) (ascii "-") (ascii "+")

-- a word, and uses or listings after it
unfoldable pub line : String → List ℕ → List ℕ
line word us = ascii word ++ flat (map (λ (u : ℕ). ascii " " ++ signed u) us) ++ ascii "\n"

-- a word, and a number after it
unfoldable pub number_line : String → ℕ → List ℕ
number_line word n = field word n ++ ascii "\n"

-- Irregular 0, Regular 1, Oriented 2, Closed 3
abbrev pub condition_word : ℕ → List ℕ
condition_word w = pick (eqb w 0) (ascii "Irregular") (pick (eqb w 1) (ascii "Regular") (pick (eqb w 2) (ascii "Oriented") (ascii "Closed")))

-- what is reported of a shell
pub record Report : Type 0 where
  pub condition : ℕ
  pub connected : Bool
  pub openings : List (List ℕ)
  pub lookups : ℕ
  pub components : List (List ℕ)
  pub singular : List ℕ

unfoldable pub shell_lines : ℕ → Report → List ℕ
shell_lines n r =
    number_line "shell " n
    ++ (ascii "condition " ++ condition_word r.condition ++ ascii "\n")
    ++ (ascii "connected " ++ pick r.connected (ascii "yes") (ascii "no") ++ ascii "\n")
    ++ flat (map (line "opening") r.openings)
    ++ number_line "lookups " r.lookups
    ++ flat (map (line "component") r.components)
    ++ flat (map (number_line "singular ") r.singular)

-- what is reported of a solid: whether it is accepted, and else the number of the refusal and the shell
unfoldable pub solid_line : Bool → ℕ → ℕ → List ℕ
solid_line accepted number shell =
    pick accepted (ascii "solid accepted\n") (field "solid refused " number ++ field " shell " shell ++ ascii "\n")
