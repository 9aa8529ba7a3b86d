-- What a line of text adds to a pattern: a point, an edge, a face with its wires, a shell with its listings (docs/GUIDE.md, A first garment by hand).
use Rattle.std.specs.Prelude.{◌+◌, min, ℕ, Bool, List, [], ◌++◌, ◌∷◌, map, eqb, drop, get_or, length}
use Rattle.std.specs.Float.{binary64}
use Rattle.std.specs.Float.Ieee.{of_bits}
use Rattle.draft_forms.specs.declared.LineKind.{LineKind}
use Rattle.draft_forms.specs.declared.LineKind.TheVariants.{Edge as EdgeLine, Empty, Face as FaceLine, Point, Shell}
use Rattle.edge.specs.Edges.{edge}
use Rattle.edge.specs.declared.Edge.{Edge}
use Rattle.face.specs.declared.Face.{Face}
use Rattle.lists.specs.Lists.{flat, pick}
use Rattle.pattern.specs.Contents.{Content}
use Rattle.text.specs.Text.{front}
use Rattle.words.specs.Words.{short}

-- how many words must be there after the first
unfoldable pub needed_words : LineKind → ℕ
needed_words EdgeLine = 8
needed_words Shell = 2
needed_words Empty = 0
needed_words other = 3

abbrev pub nothing : Content
nothing = record { points = []; edges = []; uses = []; wires = []; faces = []; shells = []; listings = [] }

-- whether a pattern with these counts has no points, edges, faces and shells
abbrev pub bare : List ℕ → Bool
bare ns = eqb (get_or ns 0 0 + get_or ns 1 0 + get_or ns 4 0 + get_or ns 5 0) 0

abbrev pub joined : Content → Content → Content
joined p q = record {
  points = p.points ++ q.points;
  edges = p.edges ++ q.edges;
  uses = p.uses ++ q.uses;
  wires = p.wires ++ q.wires;
  faces = p.faces ++ q.faces;
  shells = p.shells ++ q.shells;
  listings = p.listings ++ q.listings;
}

-- `short`: a number above 65,535 names nothing, as 65,535 does; a length above it passes a limit, as 65,535 does

-- the uses before the first word `wire`, and those after each
unfoldable pub marked : List ℕ → List (List ℕ)
marked [] = [] ∷ []
marked (v ∷ vs) = pick (eqb v 65536) ([] ∷ marked vs) (front (short v) (marked vs))

-- the uses of each wire
abbrev pub wire_lists : List ℕ → List (List ℕ)
wire_lists vs = drop 1 (marked vs)

abbrev pub wires_of : List ℕ → List (List ℕ)
wires_of vs = wire_lists (drop 3 vs)

abbrev pub wire_lengths : List (List ℕ) → List ℕ
wire_lengths wires = map (λ (us : List ℕ). short (length us)) wires

abbrev pub edge_of : List ℕ → Edge
edge_of vs = edge (record { 0 = short (get_or vs 2 0) }) (record { 0 = short (get_or vs 4 0) }) (record { t0 = of_bits binary64 (get_or vs 6 0); t1 = of_bits binary64 (get_or vs 7 0) })

abbrev pub face_of : List ℕ → Face
face_of vs = record { wires = short (length (wires_of vs)); surface = short (get_or vs 2 0) }

abbrev pub point_parts : List ℕ → Content
point_parts vs = record { points = min (get_or vs 2 0) 4294967295 ∷ []; edges = []; uses = []; wires = []; faces = []; shells = []; listings = [] }

abbrev pub edge_parts : List ℕ → Content
edge_parts vs = record { points = []; edges = edge_of vs ∷ []; uses = []; wires = []; faces = []; shells = []; listings = [] }

abbrev pub face_parts : List ℕ → Content
face_parts vs = record {
  points = [];
  edges = [];
  uses = flat (wires_of vs);
  wires = wire_lengths (wires_of vs);
  faces = face_of vs ∷ [];
  shells = [];
  listings = [];
}

abbrev pub shell_parts : List ℕ → Content
shell_parts vs = record { points = []; edges = []; uses = []; wires = []; faces = []; shells = short (length (drop 2 vs)) ∷ []; listings = map short (drop 2 vs) }

-- what a line of a kind with these values says
unfoldable pub parts_of : LineKind → List ℕ → Content
parts_of Point vs = point_parts vs
parts_of EdgeLine vs = edge_parts vs
parts_of FaceLine vs = face_parts vs
parts_of Shell vs = shell_parts vs
parts_of other vs = nothing
