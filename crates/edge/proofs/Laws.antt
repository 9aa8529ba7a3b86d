-- What the proofs of this crate and of those above it cite of edges and uses.
use mathlib.Core.Bool.{Bool, ◌&&◌, false, true}
use mathlib.Core.Path.{◌≡◌, refl}
use lib.Ieee.{nan}
use Rattle.edge.specs.Edges.{edge}
use Rattle.edge.specs.declared.Edge.{Edge}

-- what the language's reads give past the end of a list of edges
abbrev pub no_edge : Edge
no_edge = edge (record { 0 = 0 }) (record { 0 = 0 }) (record { t0 = nan; t1 = nan })

-- the conjunction of three, from the left
pub all_three : (a b c : Bool) → a ≡ true → b ≡ true → c ≡ (a && b && c)
all_three true true c p q = refl
all_three true false c p q = cc
all_three false b c p q = cc

pub not_first : (a b c : Bool) → a ≡ false → false ≡ (a && b && c)
not_first false b c p = refl
not_first true b c p = cc

pub not_second : (a b c : Bool) → b ≡ false → false ≡ (a && b && c)
not_second true false c p = refl
not_second false false c p = refl
not_second a true c p = cc
