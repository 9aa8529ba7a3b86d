-- A mesh in the tables of a pattern, as far as the limits reach. Cited by inner contracts.
use Rattle.std.specs.Prelude.{◌≤◌, min, ℕ, List, [], ◌++◌, ◌∷◌, map, ◌≡◌, length, take}
use Rattle.edge.specs.declared.Edge.{Edge}
use Rattle.lists.specs.Lists.{flat}
use Rattle.mesh.specs.Mesh.{Mesh}
use Rattle.mesh_edges.specs.Index.{Indexed}
use Rattle.pattern.specs.Contents.{Pattern}
use Rattle.mesh_draw.specs.declared.Filled.{Filled}

abbrev pub with_edges : Mesh → List Edge → Mesh
with_edges m es = record { points = m.points; edges = es; wires = m.wires }

abbrev pub with_wire : Mesh → List ℕ → Mesh
with_wire m us = record { points = m.points; edges = m.edges; wires = m.wires ++ (us ∷ []) }

-- a table holds the list up to its limit
abbrev pub Tabled {ℓ} : {A : Type ℓ} → ℕ → List A → List A → Type ℓ
Tabled limit table xs = take (min (length xs) limit) table ≡ take limit xs

-- the wires, where the uses are within their limit
pub record WiresKept (wires : List (List ℕ)) (f : Filled) (p : Pattern) : Type 0 where
  pub begun : f.begun ≡ length (flat wires)
  pub table : Tabled 1024 p.wires (map length wires)

-- edges, uses and wires, where the points and the edges are within their limits; `us` are the uses of the face that is being read
pub record SidesKept (m : Mesh) (us : List ℕ) (f : Filled) (p : Pattern) (index : List ℕ) : Type 0 where
  pub edges : take (length m.edges) p.edges ≡ m.edges
  pub indexed : Indexed m.edges index
  pub used : f.uses ≡ min (length (flat m.wires ++ us)) 4097
  pub uses : Tabled 4096 p.uses (flat m.wires ++ us)
  pub faces : f.faces ≡ min (length m.wires) 1025
  pub wires : length (flat m.wires ++ us) ≤ 4096 → WiresKept m.wires f p

pub record EdgesKept (m : Mesh) (us : List ℕ) (f : Filled) (p : Pattern) (index : List ℕ) : Type 0 where
  pub count : f.edges ≡ min (length m.edges) 1025
  pub sides : length m.edges ≤ 1024 → SidesKept m us f p index

pub record Kept (m : Mesh) (us : List ℕ) (f : Filled) (p : Pattern) (index : List ℕ) : Type 0 where
  pub points : f.points ≡ min (length m.points) 999999999
  pub labels : Tabled 2048 p.points m.points
  pub edges : length m.points ≤ 2048 → EdgesKept m us f p index
