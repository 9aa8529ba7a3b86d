-- Uses of edges below a number. Cited by inner contracts.
use Rattle.std.specs.Prelude.{ℕ, ◌<◌, List, get_or, length}
use Rattle.edge.specs.Uses.{edge_number}

-- every use of the list names an edge below n
abbrev pub EdgesBelow : ℕ → List ℕ → Type 0
EdgesBelow n us = (k : ℕ) → k < length us → edge_number (get_or us k 0) < n
