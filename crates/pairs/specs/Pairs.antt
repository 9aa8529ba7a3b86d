-- The face and sign pairs of a shell, each once, ordered by first listing, without faces that have no wires; with their wires and uses in columns.
use Rattle.std.specs.Prelude.{ℕ, ◌*◌, ◌+◌, ◌/◌, ◌<◌, ◌≤◌, suc, Bool, ◌&&◌, not, List, [], ◌∷◌, map, eqb, ltb, ◌≡◌, get_or, length, replicate}
use Rattle.lists.specs.Lists.{flat, once, only, padded, pick}
use Rattle.listing.specs.Parts.{Shows, between, part_at}
use Rattle.shell.specs.Shells.{face_number}
use Rattle.pairs.specs.declared.Pairs.{Pairs}

-- the face of a listing has wires; `firsts` says where the wires of each face begin
abbrev pub has_wires_at : List ℕ → ℕ → Bool
has_wires_at firsts l = ltb (get_or firsts (face_number l) 0) (get_or firsts (suc (face_number l)) 0)

-- how many uses each of its wires has
abbrev pub lens_at : List ℕ → List ℕ → ℕ → List ℕ
lens_at wires firsts l = between wires (get_or firsts (face_number l) 0) (get_or firsts (suc (face_number l)) 0)

-- the pairs
abbrev pub pairs_in : List ℕ → List ℕ → List ℕ
pairs_in listings firsts = once (only (has_wires_at firsts) listings)

-- the pairs with their columns
unfoldable pub pairs_of : List ℕ → List ℕ → List ℕ → List ℕ → List ℕ → List ℕ → Pairs
pairs_of listings uses turned starts wires firsts =
    let ps = pairs_in listings firsts in
    record {
      number = length ps;
      wires = length (flat (map (lens_at wires firsts) ps));
      uses = length (flat (map (part_at uses turned starts) ps));
      pairs = padded 512 0 ps;
      counts = padded 512 0 (map (λ (l : ℕ). length (lens_at wires firsts l)) ps);
      spans = padded 512 0 (map (λ (l : ℕ). length (part_at uses turned starts l)) ps);
      lens = padded 2048 0 (flat (map (lens_at wires firsts) ps));
      shown = padded 8192 0 (flat (map (part_at uses turned starts) ps));
    }

-- no pairs
abbrev pub no_pairs : Pairs
no_pairs = record {
  number = 0;
  wires = 0;
  uses = 0;
  pairs = replicate 512 0;
  counts = replicate 512 0;
  spans = replicate 512 0;
  lens = replicate 2048 0;
  shown = replicate 8192 0;
}

-- the parts of the faces follow each other in both columns, up to place `most` at most
pub record Rows (uses turned starts : List ℕ) (faces most : ℕ) : Type 0 where
  pub begun : faces < length starts
  pub rises : (f : ℕ) → f < faces → get_or starts f 0 ≤ get_or starts (suc f) 0
  pub short : get_or starts faces 0 ≤ most
  pub along : get_or starts faces 0 ≤ length uses
  pub back : get_or starts faces 0 ≤ length turned

-- listings of faces that have their uses and their wires in columns
pub record Showing (listings uses turned starts wires firsts : List ℕ) : Type 0 where
  pub few : length listings ≤ 512
  pub faces : ℕ
  pub low : faces ≤ 256
  pub named : (k : ℕ) → k < length listings → face_number (get_or listings k 0) < faces
  pub small : (k : ℕ) → k < length listings → get_or listings k 0 < 65536
  pub shown : Rows uses turned starts faces 4096
  pub wired : Rows wires wires firsts faces 1024

-- a listing whose face is in the table of wires
pub record Listed (firsts : List ℕ) (l : ℕ) : Type 0 where
  pub face : suc (face_number l) < length firsts
  pub low : face_number l < 256
  pub small : l < 65536

-- a pair's mark: twice the face's number, plus 1 if reversed
abbrev pub mark_of : ℕ → ℕ
mark_of l = face_number l * 2 + l / 32768

-- the listing makes a pair that has no mark yet
abbrev pub is_new : List ℕ → List ℕ → ℕ → Bool
is_new marks firsts l = has_wires_at firsts l && not (eqb (get_or marks (mark_of l) 0) 1)

-- the listing alone if it makes a new pair, else nothing
abbrev pub new_pair : List ℕ → List ℕ → ℕ → List ℕ
new_pair marks firsts l = pick (is_new marks firsts l) (l ∷ []) []

-- each of the listings shows a part of fewer than 65,536
pub record Parted (uses turned starts ps : List ℕ) : Type 0 where
  pub shows : (k : ℕ) → k < length ps → Shows uses turned starts (get_or ps k 0)
  pub short : (k : ℕ) → k < length ps → length (part_at uses turned starts (get_or ps k 0)) < 65536
