-- The wires of a shell as flags: one for each wire of the pattern.
use Rattle.std.specs.Prelude.{◌+◌, suc, ℕ, Bool, ◌&&◌, false, List, [], ◌∷◌, map, get_or}
use Rattle.edge.specs.Uses.{edge_number}
use Rattle.lists.specs.Lists.{flat, has, pick}
use Rattle.shell_edits.specs.Edits.{each_wire}

module _ (flags : List Bool) where
  -- the uses of the flagged wires; the first wire has number w
  abbrev pub uses_where : ℕ → List (List ℕ) → List ℕ
  uses_where w wires = flat (each_wire (λ (k : ℕ) (us : List ℕ). pick (get_or flags k false) us []) w wires)

  -- how many flagged wires have a use of edge e
  unfoldable pub cuts_where : ℕ → ℕ → List (List ℕ) → ℕ
  cuts_where e w [] = 0
  cuts_where e w (us ∷ wires) = pick (get_or flags w false && has e (map edge_number us)) 1 0 + cuts_where e (suc w) wires
