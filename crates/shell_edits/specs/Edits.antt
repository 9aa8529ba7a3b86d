-- The edits of a shell: cut (cut_edge), remove a point (remove_vertex_by_concat_edges), concat, add a point. A pattern is edited as its content (FORMAT 4).
use Rattle.edge.specs.declared.Curve.{Curve}
use Rattle.std.specs.Prelude.{ℕ, suc, ◌+◌, ◌-◌, Bool, not, ◌&&◌, ◌||◌, List, [], ◌∷◌, ◌++◌, map, eqb, leb, ltb, drop, get_or, length, take, None, Option, Some}
use Rattle.lists.specs.Lists.{disjoint, flat, has, numbers, only, pick, rotated, split, unless}
use Rattle.edge.specs.Edges.{back_number, front_number}
use Rattle.edge.specs.Uses.{edge_number, turned}
use Rattle.edge.specs.declared.Edge.{Edge}
use Rattle.curve.specs.Curves.{cut_curve, join_curves}
use Rattle.curve.specs.declared.Parameter.{Parameter}
use Rattle.wire.specs.Wires.{end_from, find_from, found_reply}
use Rattle.wire_swaps.specs.Swaps.{swap_edge, swap_subwire}
use Rattle.face.specs.Faces.{wire_count}
use Rattle.pattern.specs.Contents.{Content, limit, zero_edge}
use Rattle.shell.specs.Openings.{back_in, front_in}
use Rattle.shell.specs.Shells.{face_number, listings_of}
use Rattle.shell_edits.specs.NewEdges.{half_edges, is_cut, is_joined, joined_ends, use_back, use_front}
use Rattle.edit_answers.specs.declared.EditError.{EditError}
use Rattle.edit_answers.specs.declared.EditError.TheVariants.{CurveRefuses, Disconnected, EdgeNotInShell, NoSpace, NotOneOrTwoWires, SameEnds, SharedFace, SpanRefused, Unmatched, Unnamed, VertexInShell}

-- ---- the wires of a shell, as stored

-- each wire changed, by its number; the first has number w
unfoldable pub each_wire : (ℕ → List ℕ → List ℕ) → ℕ → List (List ℕ) → List (List ℕ)
each_wire change w [] = []
each_wire change w (us ∷ wires) = change w us ∷ each_wire change (suc w) wires

abbrev pub wires_in : Content → List (List ℕ)
wires_in c = split c.wires c.uses

-- the uses of wire w
abbrev pub outline : Content → ℕ → List ℕ
outline c w = get_or (wires_in c) w []

-- the numbers of the wires of these listings, of faces with so many wires each, so many in all
unfoldable pub listed_wires : List ℕ → ℕ → List ℕ → List ℕ
listed_wires counts wires listings = flat (map (λ (l : ℕ). get_or (split counts (numbers wires)) (face_number l) []) listings)

-- the numbers of the wires of shell n, counted per listing
abbrev pub wires_of : Content → ℕ → List ℕ
wires_of c n = listed_wires (map wire_count c.faces) (length c.wires) (listings_of c n)

-- the uses of these wires
abbrev pub uses_in : Content → ℕ → List ℕ
uses_in c n = flat (map (outline c) (wires_of c n))

-- the listings of the other shells
abbrev pub other_listings : Content → ℕ → List ℕ
other_listings c n = flat (take n (split c.shells c.listings) ++ drop (suc n) (split c.shells c.listings))

-- some face of the shell also listed in another
abbrev pub shares_face : Content → ℕ → Bool
shares_face c n = not (disjoint (map face_number (listings_of c n)) (map face_number (other_listings c n)))

-- more edges, and other uses and wires; all else is as it was
abbrev pub edited : Content → List Edge → List ℕ → List ℕ → Content
edited c edges uses wires = record {
  points = c.points;
  edges = c.edges ++ edges;
  uses = uses;
  wires = wires;
  faces = c.faces;
  shells = c.shells;
  listings = c.listings;
}

-- so many edges, or so many uses, do not pass their limits
abbrev pub room_for_edges : ℕ → Bool
room_for_edges k = leb k (limit 1)

abbrev pub room_for_uses : ℕ → Bool
room_for_uses k = leb k (limit 2)

abbrev pub edge_at : Content → ℕ → Edge
edge_at c e = get_or c.edges e zero_edge

-- ---- cut: shell n, edge e, point p, and where the search put the point

-- first half and second half, or if reversed the second turned and then the first turned; a is the number of the first
abbrev pub halves_of : ℕ → ℕ → List ℕ
halves_of a u = pick (leb 32768 u) (turned (a + 1) ∷ turned a ∷ []) (a ∷ (a + 1) ∷ [])

-- only the first use of the edge is replaced
abbrev pub swap_found : ℕ → List ℕ → Option ℕ → List ℕ
swap_found a us None = us
swap_found a us (Some i) = swap_edge us i (halves_of a (get_or us i 0))

abbrev pub cut_wire : ℕ → ℕ → List ℕ → List ℕ
cut_wire e a us = swap_found a us (find_from 0 e us)

-- in each wire of the shell, once, however often its face is listed
abbrev pub cut_wires : Content → ℕ → ℕ → List (List ℕ)
cut_wires c n e = each_wire (λ (w : ℕ) (us : List ℕ). pick (has w (wires_of c n)) (cut_wire e (length c.edges) us) us) 0 (wires_in c)

-- 27, 14, 15, 16, 17: a face is shared, the point is in the shell, the edge is, what its curve gives, how many edges and uses there are then
abbrev pub later_faults : Bool → Bool → Bool → Option (Curve × Curve) → ℕ → ℕ → List EditError
later_faults shared met there halves edges uses =
    unless (not shared) SharedFace
    ++ unless (not met) VertexInShell
    ++ unless there EdgeNotInShell
    ++ unless (is_cut halves) CurveRefuses
    ++ unless (room_for_edges edges && room_for_uses uses) NoSpace

-- 3, 27, 14, 15, 16, 17
abbrev pub cut_faults : Content → ℕ → ℕ → ℕ → Parameter → List EditError
cut_faults c n e p at =
    unless (ltb n (length c.shells) && ltb e (length c.edges) && ltb p (length c.points)) Unnamed
    ++ later_faults (shares_face c n) (has p (map (front_in c) (uses_in c n))) (has e (map edge_number (uses_in c n))) (cut_curve (edge_at c e).curve at)
    (length c.edges + 2) (length (flat (cut_wires c n e)))

abbrev pub cut_content : Content → ℕ → ℕ → ℕ → Parameter → Content
cut_content c n e p at = edited c (half_edges (edge_at c e) p (cut_curve (edge_at c e).curve at)) (flat (cut_wires c n e)) (map length (cut_wires c n e))

-- ---- concat: two uses

-- the edge of a use, as stored
abbrev pub edge_of : Content → ℕ → Edge
edge_of c u = edge_at c (edge_number u)

-- from the first use's front to the second's back
abbrev pub joined_edge : Content → ℕ → ℕ → Edge
joined_edge c u v = joined_ends (edge_of c u) u (edge_of c v) v

-- 25, 26, 17, of use u of edge a and use v of edge b, where there are so many edges
abbrev pub end_faults : Edge → ℕ → Edge → ℕ → ℕ → List EditError
end_faults a u b v edges =
    unless (not (eqb (use_front a u).0 (use_back b v).0)) SameEnds
    ++ unless (is_joined (join_curves a.curve b.curve)) SpanRefused
    ++ unless (room_for_edges (edges + 1)) NoSpace

-- 29, 25, 26, 17
abbrev pub meet_faults : Edge → ℕ → Edge → ℕ → ℕ → List EditError
meet_faults a u b v edges = unless (eqb (use_back a u).0 (use_front b v).0) Disconnected ++ end_faults a u b v edges

-- 3, 29, 25, 26, 17
abbrev pub concat_faults : Content → ℕ → ℕ → List EditError
concat_faults c u v =
    unless (ltb (edge_number u) (length c.edges) && ltb (edge_number v) (length c.edges)) Unnamed
    ++ meet_faults (edge_of c u) u (edge_of c v) v (length c.edges)

-- the edge is appended, and nothing else changes
abbrev pub concat_content : Content → ℕ → ℕ → Content
concat_content c u v = edited c (joined_edge c u v ∷ []) c.uses c.wires

-- ---- add a point, with a label

-- 3 for a label that no pattern can have, 17
abbrev pub vertex_faults : Content → ℕ → List EditError
vertex_faults c label = unless (ltb label 4294967296) Unnamed ++ unless (leb (length c.points + 1) (limit 0)) NoSpace

-- the point is appended, and nothing else changes
abbrev pub vertex_content : Content → ℕ → Content
vertex_content c label = record {
  points = c.points ++ (label ∷ []);
  edges = c.edges;
  uses = c.uses;
  wires = c.wires;
  faces = c.faces;
  shells = c.shells;
  listings = c.listings;
}

-- ---- remove a point: shell n, point p

-- the wires of the shell with a use that ends at p
abbrev pub ending_wires : Content → ℕ → ℕ → List ℕ
ending_wires c n p = only (λ (w : ℕ). has p (map (back_in c) (outline c w))) (wires_of c n)

-- the place of the first such use
abbrev pub place_in : Option ℕ → ℕ
place_in f = get_or (found_reply f).values 0 0

abbrev pub end_place : Content → ℕ → List ℕ → ℕ
end_place c p us = place_in (end_from (map front_number c.edges) (map back_number c.edges) 0 p us)

-- that use, and the next on its wire; after the last, the first
abbrev pub end_use : Content → ℕ → ℕ → ℕ
end_use c p w = get_or (outline c w) (end_place c p (outline c w)) 0

abbrev pub next_use : Content → ℕ → ℕ → ℕ
next_use c p w = get_or (rotated (outline c w)) (end_place c p (outline c w)) 0

-- the first and the last such wire
abbrev pub first_wire : List ℕ → ℕ
first_wire ws = get_or ws 0 0

abbrev pub last_wire : List ℕ → ℕ
last_wire ws = get_or ws (length ws - 1) 0

-- the edge of each one's use is the edge of the other's next use
abbrev pub matched : Content → ℕ → ℕ → ℕ → Bool
matched c p v w = eqb (edge_number (end_use c p v)) (edge_number (next_use c p w)) && eqb (edge_number (end_use c p w)) (edge_number (next_use c p v))

-- 3, 27, 23, 24
abbrev pub near_faults : Content → ℕ → ℕ → List EditError
near_faults c n p =
    let ws = ending_wires c n p in
    unless (ltb n (length c.shells) && ltb p (length c.points)) Unnamed
    ++ unless (not (shares_face c n)) SharedFace
    ++ unless (ltb 0 (length ws) && leb (length ws) 2) NotOneOrTwoWires
    ++ unless (ltb (length ws) 2 || matched c p (first_wire ws) (last_wire ws)) Unmatched

-- 25, 26, 17, of two uses
abbrev pub join_faults : Content → ℕ → ℕ → List EditError
join_faults c u v = end_faults (edge_of c u) u (edge_of c v) v (length c.edges)

-- 3, 27, 23, 24, 25, 26, 17
abbrev pub remove_faults : Content → ℕ → ℕ → List EditError
remove_faults c n p =
    let w = last_wire (ending_wires c n p) in
    near_faults c n p ++ join_faults c (end_use c p w) (next_use c p w)

-- the new edge runs as in the last such wire; the other wire takes it turned
abbrev pub remove_wires : Content → ℕ → ℕ → List (List ℕ)
remove_wires c n p =
    let ws = ending_wires c n p in
    let join : List ℕ → ℕ → List ℕ = λ (us : List ℕ) (u : ℕ). swap_subwire us (end_place c p us) u in
    each_wire (λ (w : ℕ) (us : List ℕ). pick (eqb w (last_wire ws)) (join us (length c.edges)) (pick (eqb w (first_wire ws)) (join us (turned (length c.edges))) us)) 0 (wires_in c)

abbrev pub remove_content : Content → ℕ → ℕ → Content
remove_content c n p =
    let w = last_wire (ending_wires c n p) in
    edited c (joined_edge c (end_use c p w) (next_use c p w) ∷ []) (flat (remove_wires c n p)) (map length (remove_wires c n p))
