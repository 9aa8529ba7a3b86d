-- Connected (is_connected): the points of the uses, linked by edges and by the first points of neighbouring wires of one face, form at most one group. No points: yes (FORMAT 3.5).
use Rattle.std.specs.Prelude.{ℕ, Bool, List, ◌++◌, map, drop, get_or, length}
use Rattle.lists.specs.Lists.{flat}
use Rattle.groups.specs.Groups.{Link, links, one_group}
use Rattle.pattern.specs.Contents.{Content}
use Rattle.shell.specs.Openings.{back_in, front_in}
use Rattle.shell.specs.Shells.{shell_faces}

module _ (front back : ℕ → ℕ) where
  -- the first points of the wires of a face
  abbrev pub first_points : List (List ℕ) → List ℕ
  first_points wires = map (λ (us : List ℕ). front (get_or us 0 0)) wires

  -- each use links its ends; each wire's first point is linked with that of the next wire
  unfoldable pub face_links : List (List ℕ) → List Link
  face_links wires = links (map front (flat wires)) (map back (flat wires)) ++ links (first_points wires) (drop 1 (first_points wires))

  -- faces as lists of wires, over so many points
  unfoldable pub connected_of : ℕ → List (List (List ℕ)) → Bool
  connected_of points faces = one_group points (flat (map face_links faces)) (map front (flat (flat faces)))

abbrev pub connected : Content → ℕ → Bool
connected c n = connected_of (front_in c) (back_in c) (length c.points) (shell_faces c n)
