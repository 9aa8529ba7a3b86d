-- The words that ask for a program's usage.
use Rattle.std.specs.Prelude.{ℕ, Bool, ◌||◌, List, eqb}
use Rattle.output.specs.Text.{ascii}
use Rattle.text.specs.Tokens.{name}

unfoldable pub help_named : ℕ → Bool
help_named n = eqb n (name (ascii "--help")) || eqb n (name (ascii "-h"))

abbrev pub is_help : List ℕ → Bool
is_help w = help_named (name w)
