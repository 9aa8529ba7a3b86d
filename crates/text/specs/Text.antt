-- The lines of a text and the words of a line. A line ends at a line feed or the end of the text; a carriage return just before that is dropped. Words are parted by spaces and tabs (docs/GUIDE.md, Edits).
use Rattle.std.specs.Prelude.{ℕ, ◌-◌, Bool, not, ◌||◌, List, [], ◌∷◌, map, eqb, get_or, length, take}
use Rattle.lists.specs.Lists.{pick}

abbrev pub is_feed : ℕ → Bool
is_feed b = eqb b 10

abbrev pub is_blank : ℕ → Bool
is_blank b = eqb b 32 || eqb b 9

abbrev pub is_ink : ℕ → Bool
is_ink b = not (is_blank b)

-- the bytes before the first that passes the test
unfoldable pub before : (ℕ → Bool) → List ℕ → List ℕ
before q [] = []
before q (b ∷ s) = pick (q b) [] (b ∷ before q s)

-- a byte before the first of the parts
abbrev pub front : ℕ → List (List ℕ) → List (List ℕ)
front b [] = (b ∷ []) ∷ []
front b (s ∷ ss) = (b ∷ s) ∷ ss

-- the text parted at its line feeds; an empty rest at the end is no line
unfoldable pub fed : List ℕ → List (List ℕ)
fed [] = []
fed (b ∷ s) = pick (is_feed b) ([] ∷ fed s) (front b (fed s))

-- without a carriage return at its end
abbrev pub trimmed : List ℕ → List ℕ
trimmed s = pick (eqb (get_or s (length s - 1) 0) 13) (take (length s - 1) s) s

abbrev pub lines : List ℕ → List (List ℕ)
lines s = map trimmed (fed s)

-- no word goes on into the bytes
abbrev pub parted : List ℕ → Bool
parted s = is_blank (get_or s 0 32)

unfoldable pub words : List ℕ → List (List ℕ)
words [] = []
words (b ∷ s) = pick (is_blank b) (words s) (pick (parted s) ((b ∷ []) ∷ words s) (front b (words s)))
