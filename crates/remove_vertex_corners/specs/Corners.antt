-- The use that ends at a point, and the next on its wire; a wire on which the two give way to one.
use Rattle.std.specs.Prelude.{ℕ, Bool, ◌&&◌, ◌||◌, List, eqb, ltb, get_or}
use Rattle.lists.specs.Lists.{pick, rotated}
use Rattle.edge.specs.Uses.{turned, edge_number}
use Rattle.wire_swaps.specs.Swaps.{swap_subwire}
use Rattle.shell_edits.specs.Edits.{place_in}
use Rattle.remove_vertex_corners.specs.declared.Corner.{Corner}
use Rattle.remove_vertex_corners.specs.declared.Ending.{Ending}
use Rattle.wire.specs.Wires.{end_from}

module _ (fronts backs : List ℕ) (v : ℕ) where
  -- the place of the first use that ends at point v
  abbrev pub place_of : List ℕ → ℕ
  place_of us = place_in (end_from fronts backs 0 v us)

  -- that use, and the next on its wire
  abbrev pub corner_of : List ℕ → Corner
  corner_of us = record { ending = get_or us (place_of us) 0; next = get_or (rotated us) (place_of us) 0 }

  -- the two give way to use u
  abbrev pub joined_wire : ℕ → List ℕ → List ℕ
  joined_wire u us = swap_subwire us (place_of us) u

  -- wire w after the removal, where the new edge is a
  abbrev pub removed_wire : Ending → ℕ → ℕ → List ℕ → List ℕ
  removed_wire e a w us = pick (eqb w e.last) (joined_wire a us) (pick (eqb w e.first) (joined_wire (turned a) us) us)

-- one wire, or the edge of each one's use is the edge of the other's next use
abbrev pub fit : Ending → Corner → Corner → Bool
fit e a b = ltb e.number 2 || (eqb (edge_number a.ending) (edge_number b.next) && eqb (edge_number b.ending) (edge_number a.next))
