-- Singular points (singular_vertices): points where the edges, linked when neighbours on a wire there, fall into more than one group (FORMAT 3.7).
use Rattle.std.specs.Prelude.{ℕ, ◌*◌, ◌+◌, Bool, not, List, [], ◌∷◌, ◌++◌, map, eqb, leb, drop, length, take}
use Rattle.lists.specs.Lists.{flat, numbers, only, pick}
use Rattle.edge.specs.Uses.{edge_number}
use Rattle.groups.specs.Groups.{Link, links, one_group}
use Rattle.pattern.specs.Contents.{Content}
use Rattle.shell.specs.Openings.{back_in, front_in}
use Rattle.shell.specs.Shells.{shell_wires}

-- an edge at one of its ends: 2e where it begins, 2e + 1 where it ends; so a use begins and ends at
abbrev pub first_end : ℕ → ℕ
first_end u = pick (leb 32768 u) (2 * edge_number u + 1) (2 * edge_number u)

abbrev pub last_end : ℕ → ℕ
last_end u = pick (leb 32768 u) (2 * edge_number u) (2 * edge_number u + 1)

-- neighbours on a wire: each use and the next, the last and the first
unfoldable pub corners : List ℕ → List Link
corners us = links (map last_end us) (map first_end (drop 1 us ++ take 1 us))

module _ (front back : ℕ → ℕ) where
  -- the edges at point p
  abbrev pub ends_of : ℕ → ℕ → List ℕ
  ends_of p u = pick (eqb (front u) p) (first_end u ∷ []) [] ++ pick (eqb (back u) p) (last_end u ∷ []) []

  unfoldable pub ends_at : ℕ → List ℕ → List ℕ
  ends_at p us = flat (map (ends_of p) us)

  abbrev pub is_singular : ℕ → List (List ℕ) → ℕ → Bool
  is_singular edges wires p = not (one_group (2 * edges) (flat (map corners wires)) (ends_at p (flat wires)))

  -- they ascend
  unfoldable pub singular_of : ℕ → ℕ → List (List ℕ) → List ℕ
  singular_of edges points wires = only (is_singular edges wires) (numbers points)

abbrev pub singular_points : Content → ℕ → List ℕ
singular_points c n = singular_of (front_in c) (back_in c) (length c.edges) (length c.points) (shell_wires c n)
