-- A Wavefront OBJ mesh as a pattern: its lines in turn, and then the reading checks (FORMAT 8).
use Rattle.std.specs.Prelude.{◌%◌, ◌+◌, ◌-◌, suc, ℕ, Bool, ◌&&◌, ◌||◌, List, [], ◌++◌, ◌∷◌, map, eqb, leb, ltb, drop, get_or, length, Err, None, Ok, Option, Result, Some}
use Rattle.std.specs.Float.{binary64}
use Rattle.std.specs.Float.Ieee.{of_bits}
use Rattle.edge.specs.Edges.{back_number, edge, front_number}
use Rattle.edge.specs.declared.Edge.{Edge}
use Rattle.errors.specs.Numbers.{Reply, call_reply, refused}
use Rattle.errors.specs.declared.CallError.{CallError}
use Rattle.errors.specs.declared.CallError.TheVariants.{Refused, Unread}
use Rattle.lists.specs.Lists.{flat, numbers, pick, unless}
use Rattle.pattern.specs.Checks.{content_faults, count_faults}
use Rattle.pattern.specs.Contents.{Content, counts_of}
use Rattle.pattern_file.specs.File.{file_bytes}
use Rattle.text.specs.Text.{before, lines, words}
use Rattle.text.specs.Tokens.{number}
use Rattle.mesh.specs.declared.LineFault.{LineFault}
use Rattle.mesh.specs.declared.LineFault.TheVariants.{NotGiven, NotNumber, TooFew}
use Rattle.mesh.specs.declared.MeshError.{MeshError}
use Rattle.mesh.specs.declared.MeshError.TheVariants.{Line, NoSpace}

-- ---- words

-- the word of that one letter
abbrev pub letter : ℕ → List ℕ → Bool
letter b w = eqb (length w) 1 && eqb (get_or w 0 0) b

abbrev pub is_slash : ℕ → Bool
is_slash b = eqb b 47

-- where so many points are given: counted from 1
abbrev pub forward : ℕ → Option ℕ → Result ℕ LineFault
forward given None = Err NotNumber
forward given (Some k) = pick (leb 1 k && leb k given) (Ok (k - 1)) (Err NotGiven)

-- counted from the latest point backwards
abbrev pub backward : ℕ → Option ℕ → Result ℕ LineFault
backward given None = Err NotNumber
backward given (Some k) = pick (leb 1 k && leb k given) (Ok (given - k)) (Err NotGiven)

-- one to nine digits, with or without a minus
unfoldable pub numbered : ℕ → List ℕ → Result ℕ LineFault
numbered given w = pick (eqb (get_or w 0 0) 45) (backward given (number (drop 1 w))) (forward given (number w))

-- anything after a slash is skipped
abbrev pub corner : ℕ → List ℕ → Result ℕ LineFault
corner given w = numbered given (before is_slash w)

-- ---- what is wrong with a line

abbrev pub corner_faults : Result ℕ LineFault → List LineFault
corner_faults (Ok p) = []
corner_faults (Err f) = f ∷ []

-- an `f`: word by word, then under three points
abbrev pub corners_faults : ℕ → List (List ℕ) → List LineFault
corners_faults given ws = flat (map (λ (w : List ℕ). corner_faults (corner given w)) ws) ++ unless (leb 3 (length ws)) TooFew

-- other keywords are passed over
unfoldable pub line_faults : ℕ → List (List ℕ) → List LineFault
line_faults given [] = []
line_faults given (k ∷ ws) = pick (letter 102 k) (corners_faults given ws) []

-- ---- the mesh

pub record Mesh : Type 0 where
  -- labels
  pub points : List ℕ
  pub edges : List Edge
  -- the uses of each face
  pub wires : List (List ℕ)

abbrev pub no_mesh : Mesh
no_mesh = record { points = []; edges = []; wires = [] }

-- the edge between two points, as it is made at its first appearance: with span 0 to 1
abbrev pub between : ℕ → ℕ → Edge
between p q = edge (record { 0 = p }) (record { 0 = q }) (record { t0 = of_bits binary64 0; t1 = of_bits binary64 0x3ff0_0000_0000_0000 })

-- it joins the two points, one way or the other
abbrev pub joins : ℕ → ℕ → Edge → Bool
joins p q e = (eqb (front_number e) p && eqb (back_number e) q) || (eqb (front_number e) q && eqb (back_number e) p)

-- the place of the first that passes the test; past the last where none does
unfoldable pub place {ℓ} : {A : Type ℓ} → (A → Bool) → List A → ℕ
place test [] = 0
place test (x ∷ xs) = pick (test x) 0 (suc (place test xs))

-- the edges after a side from p to q
unfoldable pub with_side : List Edge → ℕ → ℕ → List Edge
with_side es p q = pick (ltb (place (joins p q) es) (length es)) es (es ++ (between p q ∷ []))

-- its use: reversed if the edge was first seen the other way
unfoldable pub side_use : List Edge → ℕ → ℕ → ℕ
side_use es p q =
    let k = place (joins p q) es in
    pick (eqb (front_number (get_or es k (between p q))) p) k (k + 32768)

pub record Sides : Type 0 where
  pub edges : List Edge
  pub uses : List ℕ

abbrev pub side : Sides → ℕ → ℕ → Sides
side d p q = record { edges = with_side d.edges p q; uses = d.uses ++ (side_use d.edges p q ∷ []) }

-- from p to each of the points in turn
unfoldable pub sides : Sides → ℕ → List ℕ → Sides
sides d p [] = d
sides d p (q ∷ qs) = sides (side d p q) q qs

-- the sides of a face: neighbouring points, last and first included
abbrev pub outline : List Edge → List ℕ → Sides
outline es [] = record { edges = es; uses = [] }
outline es (p ∷ ps) = sides (record { edges = es; uses = [] }) p (ps ++ (p ∷ []))

abbrev pub with_face : Mesh → List ℕ → Mesh
with_face m ps =
    let d = outline m.edges ps in
    record { points = m.points; edges = d.edges; wires = m.wires ++ (d.uses ∷ []) }

-- the label of a point: the low 32 bits of its line number
abbrev pub with_point : Mesh → ℕ → Mesh
with_point m n = record { points = m.points ++ (n % 4294967296 ∷ []); edges = m.edges; wires = m.wires }

abbrev pub point_of : Result ℕ LineFault → ℕ
point_of (Ok p) = p
point_of (Err f) = 0

-- after line n
unfoldable pub line_mesh : ℕ → Mesh → List (List ℕ) → Mesh
line_mesh n m [] = m
line_mesh n m (k ∷ ws) =
    pick (letter 118 k) (with_point m n)
    (pick (letter 102 k) (with_face m (map (λ (w : List ℕ). point_of (corner (length m.points) w)) ws)) m)

-- ---- all lines, the first of which has number n

-- a line's number as one of 64 bits: no file has more lines
unfoldable pub lines_faults : ℕ → Mesh → List (List ℕ) → List (CallError MeshError)
lines_faults n m [] = []
lines_faults n m (l ∷ ls) =
    map (λ (f : LineFault). Refused (Line f (n % 18446744073709551616))) (line_faults (length m.points) (words l))
    ++ lines_faults (suc n) (line_mesh n m (words l)) ls

unfoldable pub lines_mesh : ℕ → Mesh → List (List ℕ) → Mesh
lines_mesh n m [] = m
lines_mesh n m (l ∷ ls) = lines_mesh (suc n) (line_mesh n m (words l)) ls

-- ---- the pattern

-- a face with one wire for each `f`, all surfaces 0; one shell that lists each face once with +
abbrev pub mesh_content : Mesh → Content
mesh_content m = record {
  points = m.points;
  edges = m.edges;
  uses = flat m.wires;
  wires = map length m.wires;
  faces = map (λ (us : List ℕ). record { wires = 1; surface = 0 }) m.wires;
  shells = length m.wires ∷ [];
  listings = numbers (length m.wires);
}

abbrev pub import_content : List ℕ → Content
import_content s = mesh_content (lines_mesh 1 no_mesh (lines s))

-- the checks in sequence: line by line; after the last line 2 in body order, then the reading checks of the records
abbrev pub import_faults : List ℕ → List (CallError MeshError)
import_faults s = lines_faults 1 no_mesh (lines s) ++ map Unread (count_faults (counts_of (import_content s)) ++ content_faults (import_content s))

-- ---- the answer, and what the lent slice then holds: the slice keeps the rest, and everything if refused

abbrev pub import_answer : List (CallError MeshError) → List ℕ → List ℕ → Result ℕ (CallError MeshError)
import_answer (e ∷ es) file out = Err e
import_answer [] file out = pick (leb (length file) (length out)) (Ok (length file)) (Err (Refused (NoSpace (length file))))

abbrev pub import_bytes : List (CallError MeshError) → List ℕ → List ℕ → List ℕ
import_bytes (e ∷ es) file out = out
import_bytes [] file out = pick (leb (length file) (length out)) (file ++ drop (length file) out) out

abbrev pub imported : List ℕ → List ℕ → Result ℕ (CallError MeshError)
imported s out = import_answer (import_faults s) (file_bytes (import_content s)) out

abbrev pub imported_in : List ℕ → List ℕ → List ℕ
imported_in s out = import_bytes (import_faults s) (file_bytes (import_content s)) out

abbrev pub fault_number : LineFault → ℕ
fault_number NotNumber = 30
fault_number NotGiven = 31
fault_number TooFew = 32

-- the line; 17 with the length that the file needs
abbrev pub mesh_reply : MeshError → Reply
mesh_reply (Line f n) = refused (fault_number f) (n ∷ [])
mesh_reply (NoSpace n) = refused 17 (n ∷ [])

-- number and values: the length of the file
abbrev pub import_reply : Result ℕ (CallError MeshError) → Reply
import_reply r = call_reply (λ n. n ∷ []) mesh_reply r
