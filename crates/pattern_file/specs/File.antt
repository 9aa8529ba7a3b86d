-- The pattern file: a contents table, seven entries of offset and count; then, without gaps, the bodies (FORMAT 1.2, 1.3); its reading checks (FORMAT 2.2).
use Rattle.std.specs.Prelude.{ℕ, ◌+◌, ◌*◌, ◌&&◌, List, [], ◌∷◌, ◌++◌, map, eqb, leb, get_or, length, take}
use Rattle.std.specs.Float.{binary64}
use Rattle.std.specs.Float.Ieee.{of_bits, to_bits}
use Rattle.lists.specs.Lists.{flat, sum, tabulate, unless}
use Rattle.words.specs.Words.{bytes16, bytes32, bytes64, le16, le32, le64}
use Rattle.errors.specs.declared.Refusal.{Refusal}
use Rattle.errors.specs.declared.Refusal.TheVariants.{Layout}
use Rattle.errors.specs.Faults.{each}
use Rattle.edge.specs.declared.Edge.{Edge}
use Rattle.edge.specs.Edges.{edge}
use Rattle.face.specs.declared.Face.{Face}
use Rattle.pattern.specs.Contents.{Content, bodies, counts_of, layout}
use Rattle.pattern.specs.Checks.{content_faults, count_faults}

-- ---- layout

-- the bytes of each body
unfoldable pub body_lengths : List ℕ → List ℕ → List ℕ
body_lengths [] ns = []
body_lengths (size ∷ sizes) [] = []
body_lengths (size ∷ sizes) (n ∷ ns) = size * n ∷ body_lengths sizes ns

-- where body b begins in a file with these counts; for the number of bodies, where the file ends
unfoldable pub start_of : List ℕ → ℕ → ℕ
start_of counts b = layout.first + sum (take b (body_lengths layout.sizes counts))

-- ---- reading

-- entry b of the contents table: offset, then count
abbrev pub offset_at : List ℕ → ℕ → ℕ
offset_at s b = le32 s (8 * b)

abbrev pub count_at : List ℕ → ℕ → ℕ
count_at s b = le32 s (8 * b + 4)

abbrev pub file_counts : List ℕ → List ℕ
file_counts s = tabulate bodies (count_at s)

abbrev pub edge_at : List ℕ → ℕ → Edge
edge_at s at = edge (record { 0 = le16 s at }) (record { 0 = le16 s (at + 2) }) (record { t0 = of_bits binary64 (le64 s (at + 4)); t1 = of_bits binary64 (le64 s (at + 12)) })

abbrev pub face_at : List ℕ → ℕ → Face
face_at s at = record { wires = le16 s at; surface = le16 s (at + 2) }

-- the records of body b, each found by its place
abbrev pub records {ℓ} : {A : Type ℓ} → (List ℕ → ℕ → A) → List ℕ → ℕ → List A
records read s b = tabulate (count_at s b) (λ (k : ℕ). read s (start_of (file_counts s) b + get_or layout.sizes b 0 * k))

abbrev pub file_content : List ℕ → Content
file_content s = record {
  points = records le32 s 0;
  edges = records edge_at s 1;
  uses = records le16 s 2;
  wires = records le16 s 3;
  faces = records face_at s 4;
  shells = records le16 s 5;
  listings = records le16 s 6;
}

-- length under 56 or over 41,048 (1, body 0)
abbrev pub length_faults : List ℕ → List Refusal
length_faults s = unless (leb layout.first (length s) && leb (length s) (start_of layout.limits bodies)) (Layout 0)

-- offsets in body order (1), then the end of file (1, body 6)
abbrev pub offset_faults : List ℕ → List Refusal
offset_faults s =
    each (λ (b : ℕ) (offset : ℕ). unless (eqb offset (start_of (file_counts s) b)) (Layout b)) 0 (tabulate bodies (offset_at s))
    ++ unless (eqb (length s) (start_of (file_counts s) bodies)) (Layout 6)

abbrev pub table_faults : List ℕ → List Refusal
table_faults s = length_faults s ++ count_faults (file_counts s) ++ offset_faults s

abbrev pub file_faults : List ℕ → List Refusal
file_faults s = table_faults s ++ content_faults (file_content s)

-- ---- writing

abbrev pub edge_bytes : Edge → List ℕ
edge_bytes e = bytes16 e.front.0 ++ bytes16 e.back.0 ++ bytes64 (to_bits binary64 e.curve.t0) ++ bytes64 (to_bits binary64 e.curve.t1)

abbrev pub face_bytes : Face → List ℕ
face_bytes f = bytes16 f.wires ++ bytes16 f.surface

abbrev pub table_bytes : List ℕ → List ℕ
table_bytes counts = flat (tabulate bodies (λ (b : ℕ). bytes32 (start_of counts b) ++ bytes32 (get_or counts b 0)))

-- the file of a pattern
abbrev pub file_bytes : Content → List ℕ
file_bytes c =
    table_bytes (counts_of c)
    ++ flat (map bytes32 c.points)
    ++ flat (map edge_bytes c.edges)
    ++ flat (map bytes16 c.uses)
    ++ flat (map bytes16 c.wires)
    ++ flat (map face_bytes c.faces)
    ++ flat (map bytes16 c.shells)
    ++ flat (map bytes16 c.listings)
