-- The swaps of a wire (swap_edge_into_wire, swap_subwire_into_edges): FORMAT 4.2, 4.3.
use Rattle.std.specs.Prelude.{ℕ, suc, ◌+◌, ◌-◌, Bool, false, ◌&&◌, List, [], ◌∷◌, ◌++◌, eqb, drop, get_or, length, take}
use Rattle.lists.specs.Lists.{pick, rotated}
use Rattle.edge.specs.Uses.{front_of, back_of}

-- the use at place i gives way to the uses of another wire
abbrev pub swap_edge : List ℕ → ℕ → List ℕ → List ℕ
swap_edge us i new = take i us ++ (new ++ drop (suc i) us)

-- the use at place i and the next give way to one use
abbrev pub swap_pair : List ℕ → ℕ → ℕ → List ℕ
swap_pair us i u = take i us ++ (u ∷ drop (i + 2) us)

-- where the use at place i is its wire's last, the wire first rotates left by one
abbrev pub swap_subwire : List ℕ → ℕ → ℕ → List ℕ
swap_subwire us i u = pick (eqb (i + 1) (length us)) (swap_pair (rotated us) (i - 1) u) (swap_pair us i u)

module _ (fronts backs : List ℕ) where
  -- the other wire has a use, and runs between the ends of the use that gives way
  abbrev pub same_ends : ℕ → List ℕ → Bool
  same_ends u [] = false
  same_ends u (v ∷ vs) = eqb (front_of fronts backs u) (front_of fronts backs v) && eqb (back_of fronts backs u) (back_of fronts backs (get_or (v ∷ vs) (length vs) 0))
