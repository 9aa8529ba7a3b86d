-- The removal of a point, from the wires with a use that ends there.
use Rattle.std.specs.Prelude.{◌<◌, ℕ, List, [], map, ◌∷◌, ◌≡◌, get_or, length, Err, Ok, Result}
use Rattle.lists.specs.Lists.{flat, split}
use Rattle.edge.specs.Edges.{back_number, front_number}
use Rattle.edge.specs.Uses.{edge_number}
use Rattle.edge.specs.declared.Edge.{Edge}
use Rattle.pattern.specs.Contents.{Content, Pattern, content, stored_in}
use Rattle.pattern.specs.declared.Lists.{Lists}
use Rattle.edit_answers.specs.declared.EditError.{EditError}
use Rattle.shell_edits.specs.Edits.{each_wire, edited, end_use, joined_edge, next_use, wires_in}
use Rattle.remove_vertex_corners.specs.Corners.{corner_of, removed_wire}
use Rattle.remove_vertex_corners.specs.declared.Corner.{Corner}
use Rattle.remove_vertex_corners.specs.declared.Ending.{Ending}

-- the use of wire w that ends at v, and the next: by the definition, and in lent lists
abbrev pub corner_in : Content → ℕ → ℕ → Corner
corner_in c v w = record { ending = end_use c v w; next = next_use c v w }

abbrev pub corner_lent : Lists → ℕ → ℕ → Corner
corner_lent lists v w = corner_of lists.ends.fronts.now lists.ends.backs.now v (get_or (split lists.wires.now lists.uses.now) w [])

-- the first refusal, or the wires and the pair
abbrev pub pairing : List EditError → Ending → Corner → Result (Ending × Corner) EditError
pairing [] e k = Ok (e, k)
pairing (x ∷ xs) e k = Err x

-- a pair is of the first m edges
abbrev pub OfEdges : ℕ → Result (Ending × Corner) EditError → Type 0
OfEdges m (Ok (e, k)) = (edge_number k.ending < m) × (edge_number k.next < m)
OfEdges m (Err x) = m ≡ m

-- the new edge: the last wire's pair, joined
abbrev pub pair_edge : Content → ℕ → Ending → Edge
pair_edge c v e = joined_edge c (end_use c v e.last) (next_use c v e.last)

-- the first refusal, or the edge and the wires
abbrev pub removal : List EditError → Edge → Ending → Result (Edge × Ending) EditError
removal [] d e = Ok (d, e)
removal (x ∷ xs) d e = Err x

-- all wires after the removal
abbrev pub pair_wires : Content → ℕ → Ending → List (List ℕ)
pair_wires c v e = each_wire (removed_wire (map front_number c.edges) (map back_number c.edges) v e (length c.edges)) 0 (wires_in c)

-- the pattern with edge d and these wires
abbrev pub pair_stored : Pattern → ℕ → Ending → Edge → Pattern
pair_stored p v e d = stored_in p (edited (content p) (d ∷ []) (flat (pair_wires (content p) v e)) (map length (pair_wires (content p) v e)))
