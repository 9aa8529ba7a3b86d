-- The wires of a face. Cited by inner contracts.
use Rattle.std.specs.Prelude.{ℕ, List, drop, get_or, take}
use Rattle.lists.specs.Lists.{sum}

-- the part of the wires' lengths that is face f's; `counts` has the faces' numbers of wires
abbrev pub lengths_at : List ℕ → ℕ → List ℕ → List ℕ
lengths_at counts f lens = take (get_or counts f 0) (drop (sum (take f counts)) lens)

-- its part of the uses
abbrev pub uses_at : List ℕ → List ℕ → ℕ → List ℕ → List ℕ
uses_at counts lens f uses = take (sum (lengths_at counts f lens)) (drop (sum (take (sum (take f counts)) lens)) uses)
