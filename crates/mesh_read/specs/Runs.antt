-- Which bytes end a run of bytes that are read alike. Cited by inner contracts.
use Rattle.std.specs.Prelude.{ℕ, Bool, ◌||◌, ◌==◌}
use Rattle.text.specs.Text.{is_blank, is_feed}

-- not surely a byte of a word: a carriage return may end the line
abbrev pub is_break : ℕ → Bool
is_break b = is_blank b || (is_feed b || b == 13)

-- with a carriage return held back or not
abbrev pub stops : Bool → ℕ → Bool
stops held b = held || is_break b
