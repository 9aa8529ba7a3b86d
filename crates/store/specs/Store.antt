-- The store of a pattern: the tables of 16 bits in one list, the ends of the curves beside it. What it holds is a pattern (FORMAT 1.8).
use Rattle.std.specs.Prelude.{ℕ, ◌+◌, ◌*◌, List, Float, drop, get_or, take}
use Rattle.std.specs.Float.{nan}
use Rattle.edge.specs.Edges.{edge}
use Rattle.edge.specs.declared.Edge.{Edge}
use Rattle.face.specs.declared.Face.{Face}
use Rattle.lists.specs.Lists.{tabulate}
use Rattle.pattern.specs.Contents.{Pattern}

-- n numbers from `at` on
abbrev pub part : ℕ → ℕ → List ℕ → List ℕ
part at n t = take n (drop at t)

-- ---- the tables

abbrev pub count_table : List ℕ → List ℕ
count_table = part 0 7

abbrev pub use_table : List ℕ → List ℕ
use_table = part 2056 4096

abbrev pub wire_table : List ℕ → List ℕ
wire_table = part 6152 1024

abbrev pub shell_table : List ℕ → List ℕ
shell_table = part 7688 16

abbrev pub listing_table : List ℕ → List ℕ
listing_table = part 7704 512

-- ---- the records

abbrev pub label_in : List ℕ → ℕ → ℕ
label_in t k = get_or t (8216 + 2 * k) 0 + get_or t (8217 + 2 * k) 0 * 65536

abbrev pub edge_in : List ℕ → List Float → ℕ → Edge
edge_in t spans k = edge (record { 0 = get_or t (8 + k) 0 }) (record { 0 = get_or t (1032 + k) 0 }) (record { t0 = get_or spans (2 * k) nan; t1 = get_or spans (2 * k + 1) nan })

abbrev pub face_in : List ℕ → ℕ → Face
face_in t k = record { wires = get_or t (7176 + k) 0; surface = get_or t (7432 + k) 0 }

-- ---- the pattern

abbrev pub held : List ℕ → List Float → Pattern
held t spans = record {
  counts = count_table t;
  points = tabulate 2048 (label_in t);
  edges = tabulate 1024 (edge_in t spans);
  uses = use_table t;
  wires = wire_table t;
  faces = tabulate 256 (face_in t);
  shells = shell_table t;
  listings = listing_table t;
}
