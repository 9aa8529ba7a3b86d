-- What contracts say of the ends of all edges, which definitions take as two lists. Cited by inner contracts.
use Rattle.std.specs.Prelude.{ℕ, ◌<◌, length}
use Rattle.edge.specs.declared.Ends.{Ends}
use Rattle.edge.specs.Uses.{back_of, edge_number, front_of}

-- both lists have edge e
abbrev pub HasEdge : Ends → ℕ → Type 0
HasEdge ends e = (e < length ends.fronts.now) × (e < length ends.backs.now)

-- the points that a use begins and ends at
abbrev pub front_in : Ends → ℕ → ℕ
front_in ends = front_of ends.fronts.now ends.backs.now

abbrev pub back_in : Ends → ℕ → ℕ
back_in ends = back_of ends.fronts.now ends.backs.now
