-- The shell, a garment: listings of faces, in sequence (FORMAT 1.7).
use Rattle.std.specs.Prelude.{ℕ, ◌%◌, List, [], map, reverse, leb, get_or}
use Rattle.lists.specs.Lists.{flat, pick, split}
use Rattle.edge.specs.Uses.{turned}
use Rattle.pattern.specs.Checks.{outlines}
use Rattle.pattern.specs.Contents.{Content}

-- a listing is a face's number, plus 32,768 if reversed
abbrev pub face_number : ℕ → ℕ
face_number l = l % 32768

-- a face listed reversed shows each wire in reverse order with every use turned (Face::edge_iter)
abbrev pub shown_wire : ℕ → List ℕ → List ℕ
shown_wire l us = pick (leb 32768 l) (map turned (reverse us)) us

-- the wires that a listing shows
abbrev pub shown_wires : List (List (List ℕ)) → ℕ → List (List ℕ)
shown_wires faces l = map (shown_wire l) (get_or faces (face_number l) [])

-- the listings of shell n
abbrev pub listings_of : Content → ℕ → List ℕ
listings_of c n = get_or (split c.shells c.listings) n []

-- the faces of a shell, each with the wires that its listing shows
abbrev pub shell_faces : Content → ℕ → List (List (List ℕ))
shell_faces c n = map (shown_wires (outlines c)) (listings_of c n)

-- the wires of a shell, listing by listing
unfoldable pub shell_wires : Content → ℕ → List (List ℕ)
shell_wires c n = flat (shell_faces c n)

-- the uses of a shell are those of its listings, in sequence
abbrev pub shell_uses : Content → ℕ → List ℕ
shell_uses c n = flat (shell_wires c n)
