-- A use of an edge: the edge's number, plus 32,768 if reversed (FORMAT 1.6).
use Rattle.std.specs.Prelude.{ℕ, ◌+◌, ◌-◌, ◌%◌, List, leb, get_or}
use Rattle.lists.specs.Lists.{pick}
use Rattle.edge.specs.declared.EdgeUse.{EdgeUse}

abbrev pub edge_number : ℕ → ℕ
edge_number u = u % 32768

abbrev pub use_of : ℕ → EdgeUse
use_of u = record { edge = record { 0 = edge_number u }; reversed = leb 32768 u }

-- a use runs front to back, or back to front if reversed; the lists have the edges' ends by edge number
abbrev pub front : List ℕ → List ℕ → EdgeUse → ℕ
front fronts backs u = pick u.reversed (get_or backs u.edge.0 0) (get_or fronts u.edge.0 0)

abbrev pub back : List ℕ → List ℕ → EdgeUse → ℕ
back fronts backs u = front backs fronts u

unfoldable pub front_of : List ℕ → List ℕ → ℕ → ℕ
front_of fronts backs u = front fronts backs (use_of u)

abbrev pub back_of : List ℕ → List ℕ → ℕ → ℕ
back_of fronts backs u = front_of backs fronts u

-- a use turned: the same edge the other way
abbrev pub turned : ℕ → ℕ
turned u = pick (leb 32768 u) (u - 32768) (u + 32768)
