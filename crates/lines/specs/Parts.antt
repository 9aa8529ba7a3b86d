-- The parts of the lines of a shell and of a solid, where a word is given by its bytes, and what
-- `put_shell` requires (FORMAT 3.1).
use Rattle.std.specs.Prelude.{ℕ, ◌+◌, ◌<◌, ◌≤◌, Bool, List, ◌++◌, map, ◌≡◌, length}
use Rattle.lists.specs.Lists.{flat, pick, split, sum}
use Rattle.output.specs.Text.{ascii, decimal}
use Rattle.lines.specs.Lines.{signed, condition_word}

-- a use or listing in a line
abbrev pub item : ℕ → List ℕ
item u = ascii " " ++ signed u

-- a word, and uses or listings after it
abbrev pub word_line : List ℕ → List ℕ → List ℕ
word_line word us = word ++ flat (map item us) ++ ascii "\n"

-- a word, and a number after it
abbrev pub word_number : List ℕ → ℕ → List ℕ
word_number word n = word ++ decimal n ++ ascii "\n"

abbrev pub condition_line : ℕ → List ℕ
condition_line w = ascii "condition " ++ condition_word w ++ ascii "\n"

abbrev pub connected_line : Bool → List ℕ
connected_line c = ascii "connected " ++ pick c (ascii "yes") (ascii "no") ++ ascii "\n"

-- a line for each part, a line for each number
abbrev pub word_lines : List ℕ → List ℕ → List ℕ → List ℕ
word_lines word lens items = flat (map (word_line word) (split lens items))

abbrev pub word_numbers : List ℕ → List ℕ → List ℕ
word_numbers word ns = flat (map (word_number word) ns)

-- the three parts of the lines of a shell
abbrev pub head_lines : ℕ → ℕ → Bool → List ℕ
head_lines n w c = word_number (ascii "shell ") n ++ condition_line w ++ connected_line c

abbrev pub opening_lines : List ℕ → List ℕ → ℕ → List ℕ
opening_lines lens uses lookups = word_lines (ascii "opening") lens uses ++ word_number (ascii "lookups ") lookups

abbrev pub component_lines : List ℕ → List ℕ → List ℕ → List ℕ
component_lines plens pairs points = word_lines (ascii "component") plens pairs ++ word_numbers (ascii "singular ") points

-- the line of a refused solid
abbrev pub refused_line : ℕ → ℕ → List ℕ
refused_line number shell = (ascii "solid refused " ++ decimal number) ++ word_number (ascii " shell ") shell

-- the lists are those of a shell, and there is room for its lines
pub record Fits (out : List ℕ) (at n lookups : ℕ) (uses lens pairs plens points : List ℕ) : Type 0 where
  pub room : at + 70300 ≤ length out
  pub number : n < 100
  pub counted : lookups < 10000000
  pub few_uses : length uses ≤ 2048
  pub few_openings : length lens ≤ 2048
  pub all_uses : sum lens ≡ length uses
  pub few_pairs : length pairs ≤ 512
  pub few_components : length plens ≤ 512
  pub all_pairs : sum plens ≡ length pairs
  pub few_points : length points ≤ 2048
