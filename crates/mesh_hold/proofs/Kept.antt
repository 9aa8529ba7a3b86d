-- What holds of a mesh after each of its lines, where none has a fault: its labels, its edges, its wires.
use Rattle.errors.specs.declared.CallError.{CallError}
use Rattle.errors.specs.declared.CallError.TheVariants.{Refused}
use Rattle.mesh.specs.declared.MeshError.{MeshError}
use Rattle.mesh.specs.declared.MeshError.TheVariants.{Line}
use Prim.Native.Nat.{◌%◌, ◌<◌, ◌≤◌, suc, ℕ}
use mathlib.Core.Bool.{Bool, false, true}
use mathlib.Core.List.{List, [], ◌∷◌, map}
use mathlib.Core.Path.{◌≡◌, refl}
use native.Mathlib.Omega.{arith}
use lib.ListN.{length, length-append, length-map}
use Rattle.errors.proofs.Laws.{none_left, none_right}
use Rattle.lists.proofs.Count.{All, all_append, all_weaker}
use Rattle.lists.specs.Lists.{pick}
use Rattle.mesh.specs.Mesh.{Mesh, corner, corners_faults, letter, line_faults, line_mesh, lines_faults, lines_mesh, no_mesh, outline, point_of, with_face, with_point}
use Rattle.mesh.specs.declared.LineFault.{LineFault}
use Rattle.mesh_hold.proofs.Corners.{corners_given, corners_three}
use Rattle.mesh_hold.proofs.Sides.{Closed, Grows, Sided, grows_not, grows_on, outline_closed, outline_grows, outline_sided}
use Rattle.text.specs.Text.{words}

pub map_none : {A B : Type 0} (f : A → B) (xs : List A) → map f xs ≡ [] → xs ≡ []
map_none f [] e = refl
map_none f (x ∷ xs) e = cc

-- ---- a mesh only grows

record Within (m w : Mesh) : Type 0 where
  points : length m.points ≤ length w.points
  edges : Grows m.edges w.edges

within_self : (m : Mesh) → Within m m
within_self m = record { points = omega arith; edges = grows_not m.edges }

within_on : (m n w : Mesh) → Within m n → Within n w → Within m w
within_on m n w a b = record { points = omega arith; edges = grows_on m.edges n.edges w.edges a.edges b.edges }

-- the points of a face line
abbrev given : Mesh → List (List ℕ) → List ℕ
given m ws = map (λ (w : List ℕ). point_of (corner (length m.points) w)) ws

line_within : (n : ℕ) (m : Mesh) (ws : List (List ℕ)) → Within m (line_mesh n m ws)
unfolding line_mesh
line_within n m [] = within_self m
line_within n m (k ∷ ws) = go (letter 118 k) (letter 102 k)
  where
    go : (v f : Bool) → Within m (pick v (with_point m n) (pick f (with_face m (given m ws)) m))
    go true f = record { points = omega (arith, length-append m.points (n % 4294967296 ∷ [])); edges = grows_not m.edges }
    go false true = record { points = omega arith; edges = outline_grows m.edges (given m ws) }
    go false false = within_self m

lines_within : (n : ℕ) (m : Mesh) (ls : List (List ℕ)) → Within m (lines_mesh n m ls)
unfolding lines_mesh
lines_within n m [] = within_self m
lines_within n m (l ∷ ls) = within_on m (line_mesh n m (words l)) _ (line_within n m (words l)) (lines_within (suc n) (line_mesh n m (words l)) ls)

-- ---- a mesh within the whole one

module _ (whole : Mesh) where
  pub record Fine (m : Mesh) : Type 0 where
    pub labels : All (λ (x : ℕ). x < 4294967296) m.points
    pub edges : All (Sided (length whole.points)) m.edges
    pub wires : All (Closed whole.edges) m.wires

  point_fine : (n : ℕ) (m : Mesh) → Fine m → Fine (with_point m n)
  point_fine n m h = record {
    labels = all_append (λ (x : ℕ). x < 4294967296) m.points (n % 4294967296 ∷ []) h.labels (omega arith, tt);
    edges = h.edges;
    wires = h.wires;
  }

  module _ (few : length whole.edges ≤ 32768) where
    face_fine : (m : Mesh) (ps : List ℕ) → Within (with_face m ps) whole → All (λ (p : ℕ). p < length m.points) ps → 0 < length ps → Fine m → Fine (with_face m ps)
    face_fine m ps part low some h = record {
      labels = h.labels;
      edges = outline_sided (length whole.points) m.edges ps h.edges
          (all_weaker (λ (p : ℕ). p < length m.points) (λ (p : ℕ). p < length whole.points) (λ p l. omega (arith, part.points)) ps low);
      wires = all_append (Closed whole.edges) m.wires ((outline m.edges ps).uses ∷ []) h.wires (outline_closed whole.edges few m.edges ps some part.edges, tt);
    }

    line_fine : (n : ℕ) (m : Mesh) (ws : List (List ℕ)) → line_faults (length m.points) ws ≡ [] → Within (line_mesh n m ws) whole → Fine m → Fine (line_mesh n m ws)
    unfolding line_mesh line_faults
    line_fine n m [] ok part h = h
    line_fine n m (k ∷ ws) ok part h = go (letter 118 k) (letter 102 k) ok part
      where
        go : (v f : Bool) → pick f (corners_faults (length m.points) ws) [] ≡ [] → Within (pick v (with_point m n) (pick f (with_face m (given m ws)) m)) whole
            → Fine (pick v (with_point m n) (pick f (with_face m (given m ws)) m))
        go true f ok part = point_fine n m h
        go false true ok part =
            face_fine m (given m ws) part (corners_given (length m.points) ws ok)
            (omega (arith, corners_three (length m.points) ws ok, length-map ws (λ (w : List ℕ). point_of (corner (length m.points) w)))) h
        go false false ok part = h

    lines_fine : (n : ℕ) (m : Mesh) (ls : List (List ℕ)) → lines_faults n m ls ≡ [] → Within (lines_mesh n m ls) whole → Fine m → Fine (lines_mesh n m ls)
    unfolding lines_faults lines_mesh
    lines_fine n m [] ok part h = h
    lines_fine n m (l ∷ ls) ok part h =
        let next = line_mesh n m (words l) in
        let here = line_faults (length m.points) (words l) in
        let later = lines_faults (suc n) next ls in
        let name : LineFault → CallError MeshError = λ (f : LineFault). Refused (Line f (n % 18446744073709551616)) in
        let part-next = within_on next (lines_mesh (suc n) next ls) whole (lines_within (suc n) next ls) part in
        lines_fine (suc n) next ls (none_right (map name here) later ok) part
        (line_fine n m (words l) (map_none name here (none_left (map name here) later ok)) part-next h)

-- of all lines
pub mesh_fine : (ls : List (List ℕ)) → lines_faults 1 no_mesh ls ≡ [] → length (lines_mesh 1 no_mesh ls).edges ≤ 32768 → Fine (lines_mesh 1 no_mesh ls) (lines_mesh 1 no_mesh ls)
mesh_fine ls ok few =
    let whole = lines_mesh 1 no_mesh ls in
    lines_fine whole few 1 no_mesh ls ok (within_self whole) (record { labels = tt; edges = tt; wires = tt })
