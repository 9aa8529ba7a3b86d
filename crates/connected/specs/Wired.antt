-- Uses in wires and wires in faces, as columns of numbers, and what the functions ask of them.
use Rattle.std.specs.Prelude.{ℕ, ◌<◌, ◌≤◌, List, ◌≡◌, drop, get_or, length}
use Rattle.lists.specs.Lists.{sum}
use Rattle.edge.specs.Uses.{back_of, edge_number, front_of}
use Rattle.groups.specs.Groups.{Link, links}

-- the edge of the use stands in both lists, and the point is a number of 16 bits
pub record Begins (fronts backs : List ℕ) (u : ℕ) : Type 0 where
  pub front : edge_number u < length fronts
  pub back : edge_number u < length backs
  pub low : front_of fronts backs u < 65536

-- every use begins at a point
pub record Started (uses fronts backs : List ℕ) : Type 0 where
  pub few : length uses ≤ 8192
  pub each : (k : ℕ) → k < length uses → Begins fronts backs (get_or uses k 0)

-- the uses are cut into wires, none without uses
pub record Cut (uses lens : List ℕ) : Type 0 where
  pub few : length lens ≤ 2048
  pub summed : sum lens ≡ length uses
  pub some : (k : ℕ) → k < length lens → 0 < get_or lens k 0

-- `lens` has the lengths of the wires, `counts` the number of wires of each face; the uses begin and end at points below `points`
pub record Wired (uses lens counts fronts backs : List ℕ) (points : ℕ) : Type 0 where
  pub cut : Cut uses lens
  pub counted : sum counts ≡ length lens
  pub few : length uses ≤ 8192
  pub low : points ≤ 2048
  pub paired : length backs ≡ length fronts
  pub edges : (k : ℕ) → k < length uses → edge_number (get_or uses k 0) < length fronts
  pub starts : (k : ℕ) → k < length uses → front_of fronts backs (get_or uses k 0) < points
  pub ends : (k : ℕ) → k < length uses → back_of fronts backs (get_or uses k 0) < points

-- each is linked with the next
abbrev pub neighbours : List ℕ → List Link
neighbours ps = links ps (drop 1 ps)

-- the numbers are members
abbrev pub Below : ℕ → List ℕ → Type 0
Below n ps = (k : ℕ) → k < length ps → get_or ps k 0 < n

-- every use begins and ends at a member
pub record Ended (n : ℕ) (uses fronts backs : List ℕ) : Type 0 where
  pub each : (k : ℕ) → k < length uses → Begins fronts backs (get_or uses k 0)
  pub starts : (k : ℕ) → k < length uses → front_of fronts backs (get_or uses k 0) < n
  pub ends : (k : ℕ) → k < length uses → back_of fronts backs (get_or uses k 0) < n

-- the uses, and the first points of the wires of the faces
pub record Linkable (n : ℕ) (uses fronts backs firsts counts : List ℕ) : Type 0 where
  pub few : n ≤ 2048
  pub ended : Ended n uses fronts backs
  pub counted : sum counts ≤ length firsts
  pub starts : Below n firsts
