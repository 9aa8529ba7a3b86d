-- Worked by hand: five members, links 0 to 1, 2 to 1 and 4 to 3, the groups 0 1 2 and 3 4.
use Prim.Native.Nat.{ℕ}
use mathlib.Core.Bool.{false, true}
use mathlib.Core.List.{List, [], ◌∷◌}
use mathlib.Core.Path.{◌≡◌, refl}
use Rattle.groups.specs.Forest.{Trees, climb, joined, one_root, rooted, started}
use Rattle.groups.specs.Groups.{Link, every, labelled, labels, one_group}
use Rattle.lists.specs.Lists.{tabulate}

abbrev three : List Link
three = record { a = 0; b = 1 } ∷ record { a = 2; b = 1 } ∷ record { a = 4; b = 3 } ∷ []

labels_right : labels 5 three ≡ 2 ∷ 2 ∷ 2 ∷ 4 ∷ 4 ∷ []
unfolding labelled tabulate
labels_right = refl

none_right : one_group 5 three [] ≡ true
unfolding one_group
none_right = refl

one_right : one_group 5 three (2 ∷ 0 ∷ 1 ∷ []) ≡ true
unfolding one_group every labelled tabulate
one_right = refl

two_right : one_group 5 three (0 ∷ 1 ∷ 4 ∷ []) ≡ false
unfolding one_group every labelled tabulate
two_right = refl

abbrev then : Trees → ℕ → ℕ → Trees
then t i j = joined t.parents t.sizes i j

abbrev trees : Trees
trees = then (then (then (started 5 (9 ∷ 9 ∷ 9 ∷ 9 ∷ 9 ∷ 9 ∷ []) (9 ∷ 9 ∷ 9 ∷ 9 ∷ 9 ∷ 9 ∷ [])) 0 1) 2 1) 4 3

-- 1 and 2 under 0, 3 under 4; what stands after the five members is left
trees_right : trees ≡ record { parents = 0 ∷ 0 ∷ 0 ∷ 4 ∷ 4 ∷ 9 ∷ []; sizes = 3 ∷ 1 ∷ 1 ∷ 1 ∷ 2 ∷ 9 ∷ [] }
unfolding rooted climb tabulate
trees_right = refl

roots_right : one_root trees.parents (1 ∷ 2 ∷ []) ≡ true
unfolding rooted climb tabulate one_root every
roots_right = refl
