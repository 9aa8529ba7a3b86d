-- The wires after the cut; the ends of the edges, with those of the two halves of an edge.
use Rattle.std.specs.Prelude.{◌+◌, ◌<◌, ◌≤◌, ℕ, List, ◌≡◌, get_or, length, Bool, false}
use Rattle.lists.specs.Lists.{pick}
use Rattle.shell_edits.specs.Edits.{cut_wire}

-- the wires after the cut; a is the number of the first new edge
abbrev pub cut_flagged : List Bool → ℕ → ℕ → ℕ → List ℕ → List ℕ
cut_flagged flags e a w us = pick (get_or flags w false) (cut_wire e a us) us

-- edges a and a + 1 are halves of edge e: the first begins where it begins, the second ends where it ends
pub record Halved (fronts backs : List ℕ) (e a : ℕ) : Type 0 where
  pub alike : length backs ≡ length fronts
  pub long : a + 1 < length fronts
  pub small : length fronts ≤ 1024
  pub front : get_or fronts a 0 ≡ get_or fronts e 0
  pub back : get_or backs (a + 1) 0 ≡ get_or backs e 0
  -- all are points
  pub points : (get_or fronts a 0 < 2048) × (get_or fronts (a + 1) 0 < 2048) × (get_or backs a 0 < 2048) × (get_or backs (a + 1) 0 < 2048)
