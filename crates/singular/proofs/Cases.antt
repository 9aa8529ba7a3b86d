-- Worked by hand: triangles of edges 0 1 2 and 3 4 5 that meet at point 0 alone, and a third that joins them there.
use Prim.Native.Nat.{ℕ}
use mathlib.Core.List.{List, [], ◌∷◌}
use mathlib.Core.Path.{◌≡◌, refl}
use Rattle.edge.specs.Uses.{back_of, front_of}
use Rattle.groups.specs.Groups.{every, labelled, links, one_group}
use Rattle.lists.specs.Lists.{flat, only, tabulate}
use Rattle.shell.specs.Singular.{corners, ends_at, singular_of}

abbrev fronts : List ℕ
fronts = 0 ∷ 1 ∷ 2 ∷ 0 ∷ 3 ∷ 4 ∷ 2 ∷ []

abbrev backs : List ℕ
backs = 1 ∷ 2 ∷ 0 ∷ 3 ∷ 4 ∷ 0 ∷ 3 ∷ []

abbrev singular : List (List ℕ) → List ℕ
singular wires = singular_of (front_of fronts backs) (back_of fronts backs) 7 5 wires

two_right : singular ((0 ∷ 1 ∷ 2 ∷ []) ∷ (3 ∷ 4 ∷ 5 ∷ []) ∷ []) ≡ 0 ∷ []
unfolding singular_of ends_at corners links front_of flat only tabulate one_group every labelled
two_right = refl

-- the third has edge 2 reversed, edge 6, and edge 3 reversed
three_right : singular ((0 ∷ 1 ∷ 2 ∷ []) ∷ (3 ∷ 4 ∷ 5 ∷ []) ∷ (32770 ∷ 6 ∷ 32771 ∷ []) ∷ []) ≡ []
unfolding singular_of ends_at corners links front_of flat only tabulate one_group every labelled
three_right = refl
