-- The new edges of a cut and of a join, from whole edges (FORMAT 4.1 to 4.4).
use Rattle.edge.specs.declared.Curve.{Curve}
use Rattle.std.specs.Prelude.{ℕ, Bool, true, false, List, [], ◌∷◌, leb, None, Option, Some}
use Rattle.lists.specs.Lists.{pick}
use Rattle.vertex.specs.declared.VertexID.{VertexID}
use Rattle.edge.specs.Edges.{edge}
use Rattle.edge.specs.declared.Edge.{Edge}
use Rattle.curve.specs.Curves.{joined_span}

-- the two edges of a cut of edge d at point p, the half at its front first
abbrev pub half_edges : Edge → ℕ → Option (Curve × Curve) → List Edge
half_edges d p None = []
half_edges d p (Some (k, l)) = edge d.front (record { 0 = p }) k ∷ edge (record { 0 = p }) d.back l ∷ []

abbrev pub is_cut : Option (Curve × Curve) → Bool
is_cut None = false
is_cut (Some (k, l)) = true

-- the ends of use u of edge d
abbrev pub use_front : Edge → ℕ → VertexID
use_front d u = pick (leb 32768 u) d.back d.front

abbrev pub use_back : Edge → ℕ → VertexID
use_back d u = pick (leb 32768 u) d.front d.back

-- use u of edge a and use v of edge b, joined
abbrev pub joined_ends : Edge → ℕ → Edge → ℕ → Edge
joined_ends a u b v = edge (use_front a u) (use_back b v) (joined_span a.curve b.curve)

abbrev pub is_joined : Option Curve → Bool
is_joined None = false
is_joined (Some k) = true
