-- The wires with a use that ends at a point: their number, the first and the last.
use Rattle.std.specs.Prelude.{ℕ, ◌+◌, Bool, false, List, map, eqb, get_or, length}
use Rattle.lists.specs.Lists.{has, only, pick}
use Rattle.edge.specs.Uses.{back_of}
use Rattle.shell_edits.specs.Edits.{first_wire, last_wire}
use Rattle.remove_vertex_corners.specs.declared.Ending.{Ending}

abbrev pub no_ending : Ending
no_ending = record { number = 0; first = 0; last = 0 }

-- of a list of wires
abbrev pub ending_of : List ℕ → Ending
ending_of ws = record { number = length ws; first = first_wire ws; last = last_wire ws }

-- of two lists, one after the other
abbrev pub followed : Ending → Ending → Ending
followed e d = record { number = e.number + d.number; first = pick (eqb e.number 0) d.first e.first; last = pick (eqb d.number 0) e.last d.last }

-- the wires with a flag
abbrev pub flagged : List Bool → List ℕ → List ℕ
flagged flags ws = only (λ (w : ℕ). get_or flags w false) ws

module _ (fronts backs : List ℕ) (v : ℕ) where
  -- a use of the wire ends at point v
  abbrev pub ends_at : List ℕ → Bool
  ends_at us = has v (map (back_of fronts backs) us)
