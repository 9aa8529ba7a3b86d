-- What the theorems on an imported mesh speak of (FORMAT 8): the two checks that its lines and the limits leave open, and what an accepted mesh is.
use Rattle.std.specs.Prelude.{ℕ, not, List, [], ◌≡◌, eqb}
use Rattle.edge.specs.Edges.{back_number, front_number}
use Rattle.edge.specs.declared.Edge.{Edge}
use Rattle.errors.specs.declared.Refusal.{Refusal}
use Rattle.errors.specs.declared.Refusal.TheVariants.{SameVertex, Wire}
use Rattle.errors.specs.declared.WireError.TheVariants.{NotSimpleWire}
use Rattle.lists.specs.Lists.{no_dup, unless}
use Rattle.mesh.specs.Mesh.{import_content, import_faults, lines_mesh, no_mesh}
use Rattle.pattern_file.specs.File.{file_bytes, file_content, file_faults}
use Rattle.shell.specs.OpeningsHold.{OpeningsPromised}
use Rattle.text.specs.Text.{lines}
use Rattle.wire.specs.Wires.{points}

-- the uses of each face of a mesh
abbrev pub import_wires : List ℕ → List (List ℕ)
import_wires s = (lines_mesh 1 no_mesh (lines s)).wires

-- an edge with the same point at both ends (5)
abbrev pub same_ends : ℕ → Edge → List Refusal
same_ends k e = unless (not (eqb (front_number e) (back_number e))) (SameVertex k)

-- a wire that meets a point twice (8)
abbrev pub not_simple : List ℕ → List ℕ → ℕ → List ℕ → List Refusal
not_simple fronts backs w us = unless (no_dup (points fronts backs us)) (Wire w NotSimpleWire)

-- what the import promises of an accepted mesh: its file is one that the reading checks accept, with just the content of the definition; and demand 3
pub record ImportPromised (s : List ℕ) : Type 0 where
  pub accepted : import_faults s ≡ [] → file_faults (file_bytes (import_content s)) ≡ []
  pub same : import_faults s ≡ [] → file_content (file_bytes (import_content s)) ≡ import_content s
  pub openings : import_faults s ≡ [] → (n : ℕ) → OpeningsPromised (file_content (file_bytes (import_content s))) n
