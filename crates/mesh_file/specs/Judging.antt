-- The tables of a mesh, filled up, and the answer for them. Cited by inner contracts.
use Rattle.std.specs.Prelude.{ℕ, List, [], ◌++◌, ◌∷◌, map, ◌≡◌, Result, Ok, Err, get_or, set}
use Rattle.std.proofs.lemmas.List.Edits.{sets}
use Rattle.errors.specs.declared.CallError.{CallError}
use Rattle.errors.specs.declared.CallError.TheVariants.{Refused, Unread}
use Rattle.lists.specs.Lists.{numbers, tabulate}
use Rattle.mesh.specs.Mesh.{Mesh, import_answer, import_bytes, mesh_content}
use Rattle.mesh.specs.declared.MeshError.{MeshError}
use Rattle.mesh.specs.declared.MeshError.TheVariants.{NoSpace as NoMeshSpace}
use Rattle.mesh_draw.specs.declared.Filled.{Filled}
use Rattle.pattern.specs.Checks.{content_faults, count_faults}
use Rattle.pattern.specs.Contents.{Pattern, counts_of}
use Rattle.pattern_file.specs.File.{file_bytes}
use Rattle.store.specs.Columns.{with_counts, with_faces, with_listings, with_shells}
use Rattle.store_write.specs.declared.NoSpace.{NoSpace}

-- the number of records of each body: each face has one wire and is listed once, in one shell
abbrev pub filled_counts : Filled → List ℕ
filled_counts f = f.points ∷ f.edges ∷ f.uses ∷ f.faces ∷ f.faces ∷ 1 ∷ f.faces ∷ []

-- n faces with one wire and surface 0 each, and a listing of each with +
abbrev pub with_listed : Pattern → ℕ → Pattern
with_listed p n = with_listings (with_faces p (sets p.faces 0 (tabulate n (λ (k : ℕ). record { wires = 1; surface = 0 })))) (sets p.listings 0 (numbers n))

-- these counts, and as many faces as they say, in one shell
abbrev pub with_rest : Pattern → List ℕ → Pattern
with_rest p ns =
    let n = get_or ns 4 0 in
    with_counts (with_shells (with_listed p n) (set p.shells 0 n)) ns

-- the checks after the last line
abbrev pub mesh_faults : Mesh → List (CallError MeshError)
mesh_faults m = map Unread (count_faults (counts_of (mesh_content m)) ++ content_faults (mesh_content m))

-- the writer's answer, as one of an import
abbrev pub answer_of : Result ℕ (CallError NoSpace) → Result ℕ (CallError MeshError)
answer_of (Ok n) = Ok n
answer_of (Err (Unread f)) = Err (Unread f)
answer_of (Err (Refused e)) = Err (Refused (NoMeshSpace e.needed))

-- the answer for a mesh, and what the lent slice then holds
pub record Judged (m : Mesh) (out : List ℕ) (r : Result ℕ (CallError MeshError)) (out' : List ℕ) : Type 0 where
  pub answer : r ≡ import_answer (mesh_faults m) (file_bytes (mesh_content m)) out
  pub bytes : out' ≡ import_bytes (mesh_faults m) (file_bytes (mesh_content m)) out
