-- The checks on columns of numbers. Cited by inner contracts.
use Rattle.std.specs.Prelude.{ℕ, ◌≡◌, ◌<◌, ◌≤◌, List, ◌++◌, get_or, length}
use Rattle.lists.specs.Lists.{split}
use Rattle.errors.specs.declared.Refusal.{Refusal}
use Rattle.errors.specs.Faults.{each}
use Rattle.face.specs.Faces.{face_rule}
use Rattle.pattern.specs.Checks.{name_faults, sum_faults}

-- the records after the edges, of which there are so many; the faces are given by their numbers of wires
abbrev pub list_faults : ℕ → List ℕ → List ℕ → List ℕ → List ℕ → List ℕ → List Refusal
list_faults edges uses wires counts shells listings =
    each (name_faults 2 edges) 0 uses
    ++ sum_faults 3 wires (length uses)
    ++ sum_faults 4 counts (length wires)
    ++ sum_faults 5 shells (length listings)
    ++ each (name_faults 6 (length counts)) 0 listings

-- the same with the face rule; the edges are given by their ends
abbrev pub column_faults : List ℕ → List ℕ → List ℕ → List ℕ → List ℕ → List ℕ → List ℕ → List Refusal
column_faults fronts backs uses wires counts shells listings =
    list_faults (length fronts) uses wires counts shells listings ++ face_rule fronts backs 0 (split counts (split wires uses))

-- lists that are no longer than those of a pattern, of edges that name points
pub record Checkable (fronts backs wires faces shells : List ℕ) : Type 0 where
  pub alike : length backs ≡ length fronts
  pub wires_few : length wires ≤ 1024
  pub faces_few : length faces ≤ 256
  pub shells_few : length shells ≤ 16
  pub front_named : (e : ℕ) → e < length fronts → get_or fronts e 0 < 2048
  pub back_named : (e : ℕ) → e < length fronts → get_or backs e 0 < 2048
