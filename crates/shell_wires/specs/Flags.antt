-- Faces with a flag, and the listings that name them.
use Rattle.std.specs.Prelude.{ℕ, ◌<◌, Bool, false, ◌||◌, List, [], ◌∷◌, get_or, length, replicate}
use Rattle.lists.specs.Lists.{flat, tabulate}
use Rattle.shell.specs.Shells.{face_number}

-- each listing names one of 256 faces
abbrev pub NameFaces : List ℕ → Type 0
NameFaces ls = (k : ℕ) → k < length ls → face_number (get_or ls k 0) < 256

-- some listing has a face with a flag
unfoldable pub lists_flagged : List Bool → List ℕ → Bool
lists_flagged flags [] = false
lists_flagged flags (l ∷ ls) = get_or flags (face_number l) false || lists_flagged flags ls

-- the flag of each face, once for each of its wires
abbrev pub wire_flags : List Bool → List ℕ → List Bool
wire_flags flags counts = flat (tabulate (length counts) (λ (f : ℕ). replicate (get_or counts f 0) (get_or flags f false)))
