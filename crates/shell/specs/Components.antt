-- Components (connected_components): face and sign pairs linked by a shared edge (FORMAT 3.6).
use Rattle.std.specs.Prelude.{ℕ, Bool, not, List, [], map, eqb, ltb, get_or, length}
use Rattle.lists.specs.Lists.{count, disjoint, flat, numbers, once, only}
use Rattle.edge.specs.Uses.{edge_number}
use Rattle.groups.specs.Groups.{Link, link, same_group}
use Rattle.pattern.specs.Checks.{outlines}
use Rattle.pattern.specs.Contents.{Content}
use Rattle.shell.specs.Shells.{face_number, listings_of, shown_wires}

-- a face without wires is in none
abbrev pub has_wires : List (List (List ℕ)) → ℕ → Bool
has_wires faces l = ltb 0 (length (get_or faces (face_number l) []))

-- the pairs of a shell, each once, ordered by first listing
abbrev pub shell_pairs : Content → ℕ → List ℕ
shell_pairs c n = once (only (has_wires (outlines c)) (listings_of c n))

abbrev pub share_edge : List ℕ → List ℕ → Bool
share_edge us vs = not (disjoint (map edge_number us) (map edge_number vs))

-- a pair is its place; `parts` has the uses of each
abbrev pub sharers : List (List ℕ) → ℕ → List ℕ
sharers parts i = only (λ (j : ℕ). share_edge (get_or parts i []) (get_or parts j [])) (numbers (length parts))

unfoldable pub pair_links : List (List ℕ) → List Link
pair_links parts = flat (map (λ (i : ℕ). map (link i) (sharers parts i)) (numbers (length parts)))

-- the groups of n members, each in sequence, ordered by their first members
unfoldable pub groups_of : ℕ → (ℕ → ℕ → Bool) → List (List ℕ)
groups_of n same =
    let first : ℕ → Bool = λ (i : ℕ). eqb 0 (count (same i) (numbers i)) in
    map (λ (i : ℕ). only (same i) (numbers n)) (only first (numbers n))

-- pairs with their uses
unfoldable pub components_of : List ℕ → List (List ℕ) → List (List ℕ)
components_of pairs parts = map (map (λ (i : ℕ). get_or pairs i 0)) (groups_of (length parts) (same_group (length parts) (pair_links parts)))

abbrev pub components : Content → ℕ → List (List ℕ)
components c n = components_of (shell_pairs c n) (map (λ (l : ℕ). flat (shown_wires (outlines c) l)) (shell_pairs c n))
