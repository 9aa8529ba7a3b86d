-- An array of marks, one for each point: a point is marked with a stamp.
use Rattle.std.specs.Prelude.{ℕ, ◌<◌, Bool, false, ◌||◌, List, [], ◌∷◌, eqb, get_or, set}

-- the marks after the points are stamped
unfoldable pub stamped : ℕ → List ℕ → List ℕ → List ℕ
stamped s [] marks = marks
stamped s (p ∷ ps) marks = stamped s ps (set marks p s)

-- one of the points has the stamp when its turn comes
unfoldable pub met : ℕ → List ℕ → List ℕ → Bool
met s [] marks = false
met s (p ∷ ps) marks = eqb (get_or marks p 0) s || met s ps (set marks p s)

-- no mark has a stamp from s on
abbrev pub Below : ℕ → List ℕ → Type 0
Below s marks = (p : ℕ) → get_or marks p 0 < s
