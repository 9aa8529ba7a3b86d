-- The uses of a listing, as the code has them: a part of one of two columns of uses.
use Rattle.std.specs.Prelude.{ℕ, ◌-◌, ◌<◌, ◌≤◌, suc, List, map, reverse, leb, drop, get_or, length, take}
use Rattle.lists.specs.Lists.{flat, pick, split, sum}
use Rattle.edge.specs.Uses.{turned}
use Rattle.shell.specs.Shells.{face_number}

-- the uses of each wire in reverse order and turned, wire after wire
abbrev pub turned_uses : List ℕ → List ℕ → List ℕ
turned_uses wires uses = flat (map (λ (us : List ℕ). map turned (reverse us)) (split wires uses))

-- where the uses of face f begin; for the number of faces, where they end
abbrev pub face_start : List ℕ → List ℕ → ℕ → ℕ
face_start counts wires f = sum (take (sum (take f counts)) wires)

-- the numbers from place i to place j
abbrev pub between : List ℕ → ℕ → ℕ → List ℕ
between xs i j = take (j - i) (drop i xs)

-- the uses that a listing shows; `starts` says where the uses of each face begin
abbrev pub part_at : List ℕ → List ℕ → List ℕ → ℕ → List ℕ
part_at uses turned starts l = between (pick (leb 32768 l) turned uses) (get_or starts (face_number l) 0) (get_or starts (suc (face_number l)) 0)

-- those of several listings, in sequence
abbrev pub parts_of : List ℕ → List ℕ → List ℕ → List ℕ → List ℕ
parts_of uses turned starts ls = flat (map (part_at uses turned starts) ls)

-- a listing whose part lies within both columns
pub record Shows (uses turned starts : List ℕ) (l : ℕ) : Type 0 where
  pub face : suc (face_number l) < length starts
  pub rises : get_or starts (face_number l) 0 ≤ get_or starts (suc (face_number l)) 0
  pub along : get_or starts (suc (face_number l)) 0 ≤ length uses
  pub back : get_or starts (suc (face_number l)) 0 ≤ length turned
