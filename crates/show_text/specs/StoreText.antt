-- The lines of the records in the store, for the contracts of the functions that write them.
use Rattle.std.specs.Prelude.{ℕ, ◌≤◌, List, [], Float, get_or, take}
use Rattle.lists.specs.Lists.{split, sum}
use Rattle.show_lines.specs.PatternLines.{face_line, point_line, shell_line}
use Rattle.show_text.specs.PatternText.{edge_text}
use Rattle.store.specs.Store.{edge_in, face_in, label_in, listing_table, shell_table, use_table, wire_table}
use Rattle.store.specs.Columns.{face_table}

abbrev pub point_held : List ℕ → ℕ → List ℕ
point_held t k = point_line k (label_in t k)

abbrev pub edge_held : List ℕ → List Float → ℕ → List ℕ
edge_held t spans k = edge_text k (edge_in t spans k)

-- face k of n
abbrev pub face_held : List ℕ → ℕ → ℕ → List ℕ
face_held t n k = face_line k (face_in t k).surface (get_or (split (take n (face_table t)) (split (wire_table t) (use_table t))) k [])

-- shell k of n
abbrev pub shell_held : List ℕ → ℕ → ℕ → List ℕ
shell_held t n k = shell_line k (get_or (split (take n (shell_table t)) (listing_table t)) k [])

-- the first n faces have their wires in the table of wires, and these have their uses in that of uses
pub record Faced (t : List ℕ) (n : ℕ) : Type 0 where
  pub few : n ≤ 256
  pub wires : sum (take n (face_table t)) ≤ 1024
  pub uses : sum (take (sum (take n (face_table t))) (wire_table t)) ≤ 4096

-- the first n shells have their listings in the table of listings
pub record Shelled (t : List ℕ) (n : ℕ) : Type 0 where
  pub few : n ≤ 16
  pub listings : sum (take n (shell_table t)) ≤ 512
