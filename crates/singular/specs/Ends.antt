-- The wires, as the code has them: all uses one after the other, and the lengths of the wires.
use Rattle.std.specs.Prelude.{◌*◌, ◌<◌, ◌≤◌, ℕ, List, map, ◌≡◌, get_or, length, replicate}
use Rattle.edge.specs.Uses.{back_of, front_of}
use Rattle.groups.specs.Forest.{joined_all, started}
use Rattle.lists.specs.Lists.{flat, rotated, split, sum}
use Rattle.shell.specs.Singular.{corners, first_end}
use Rattle.edge.specs.Below.{EdgesBelow}

-- for each use of a wire, the end where the next use begins
abbrev pub next_ends : List ℕ → List ℕ
next_ends us = map first_end (rotated us)

-- the parents in the trees of the edges' ends, neighbours on a wire joined
abbrev pub end_parents : ℕ → List ℕ → List ℕ → List ℕ
end_parents edges lens uses =
    (joined_all (started (2 * edges) (replicate 2048 0) (replicate 2048 0)) (flat (map corners (split lens uses)))).parents

-- the lengths are those of the wires, and every use names an edge
pub record Wired (uses lens : List ℕ) (edges : ℕ) : Type 0 where
  pub summed : sum lens ≡ length uses
  pub few_uses : length uses ≤ 8192
  pub few_edges : edges ≤ 1024
  pub edge : EdgesBelow edges uses

-- the ends of every use are points, for which there is room
pub record Cornered (uses lens fronts backs : List ℕ) (points : ℕ) (out : List ℕ) : Type 0 where
  pub wired : Wired uses lens (length fronts)
  pub alike : length backs ≡ length fronts
  pub few_points : points ≤ 2048
  pub room : points ≤ length out
  pub front : (k : ℕ) → k < length uses → front_of fronts backs (get_or uses k 0) < points
  pub back : (k : ℕ) → k < length uses → back_of fronts backs (get_or uses k 0) < points
