-- The edits of a face: add an outline (try_add_boundary), cut a face (cut_by_wire), glue (glue_at_boundaries). They make wires, and change nothing stored (FORMAT 5). A face is given with a sign, as a listing: its number, plus 32,768 if reversed.
use Rattle.std.specs.Prelude.{ℕ, suc, ◌/◌, Bool, true, false, ◌&&◌, List, [], ◌∷◌, ◌++◌, map, reverse, eqb, leb, ltb, drop, get_or, length, replicate, set, take, Option, None, Some}
use Rattle.lists.specs.Lists.{count, disjoint, flat, has, numbers, pick, unless}
use Rattle.edge.specs.Edges.{back_number, front_number}
use Rattle.edge.specs.Uses.{back_of, edge_number, front_of, turned}
use Rattle.edit_answers.specs.declared.FaceEditError.{FaceEditError}
use Rattle.edit_answers.specs.declared.FaceEditError.TheVariants.{EndsNotOnWire, FaceRule, FacesDiffer, NoSpace, NotDisjointWires, NothingRemains, NotOneWire, OppositeEdges, Unnamed, Wire}
use Rattle.errors.specs.declared.Refusal.{Refusal}
use Rattle.wire.specs.Wires.{end_from, points, wire_faults}
use Rattle.face.specs.Faces.{face_faults}
use Rattle.pattern.specs.Checks.{outlines}
use Rattle.pattern.specs.Contents.{Content, zero_face}
use Rattle.shell.specs.Openings.{Kept, back_in, chain, front_in, keep}
use Rattle.shell.specs.Shells.{face_number, shown_wire}
use Rattle.shell_edits.specs.Edits.{place_in}

-- ---- a face and a result

-- the wires of a face are taken as stored
abbrev pub boundaries : Content → ℕ → List (List ℕ)
boundaries c f = get_or (outlines c) (face_number f) []

abbrev pub is_face : Content → ℕ → Bool
is_face c f = ltb (face_number f) (length c.faces)

-- each use names one of n edges
abbrev pub name_edges : List ℕ → ℕ → Bool
name_edges us n = eqb (count (λ (u : ℕ). ltb (edge_number u) n) us) (length us)

abbrev pub are_uses : Content → List ℕ → Bool
are_uses c us = name_edges us (length c.edges)

-- the numbers of the edges' ends
abbrev pub fronts_in : Content → List ℕ
fronts_in c = map front_number c.edges

abbrev pub backs_in : Content → List ℕ
backs_in c = map back_number c.edges

-- wires that keep the face rule
abbrev pub no_fault : List Refusal → Bool
no_fault [] = true
no_fault (f ∷ fs) = false

abbrev pub keeps_rule : List ℕ → List ℕ → List (List ℕ) → Bool
keeps_rule fronts backs wires = no_fault (face_faults fronts backs 0 wires)

-- not longer than lists of so many uses and so many lengths
abbrev pub fits : List (List ℕ) → ℕ → ℕ → Bool
fits wires m k = leb (length (flat wires)) m && leb (length wires) k

-- 28, 17: wires of which it is known whether they keep it
abbrev pub result_faults : Bool → List (List ℕ) → ℕ → ℕ → List FaceEditError
result_faults kept wires m k = unless kept FaceRule ++ unless (fits wires m k) NoSpace

-- ---- add an outline

-- a reversed face stores the wire turned
abbrev pub added : Content → ℕ → List ℕ → List (List ℕ)
added c f us = boundaries c f ++ (shown_wire f us ∷ [])

-- 6, 7, 8, 9, 17: a wire for a face that has the uses `own`
abbrev pub boundary_faults : List ℕ → List ℕ → List ℕ → List ℕ → Bool → List FaceEditError
boundary_faults fronts backs own us room =
    map Wire (wire_faults fronts backs us)
    ++ unless (disjoint (points fronts backs us) (points fronts backs own)) NotDisjointWires
    ++ unless room NoSpace

-- 3, 6, 7, 8, 9, 17
abbrev pub add_faults : Content → ℕ → List ℕ → ℕ → ℕ → List FaceEditError
add_faults c f us m k =
    unless (is_face c f && are_uses c us) Unnamed
    ++ boundary_faults (fronts_in c) (backs_in c) (flat (boundaries c f)) us (fits (added c f us) m k)

-- ---- cut a face

-- the first n uses of an outline, then the wire; the rest of it, then the wire turned
unfoldable pub first_of : List ℕ → ℕ → List ℕ → List ℕ
first_of along n us = take n along ++ us

unfoldable pub second_of : List ℕ → ℕ → List ℕ → List ℕ
second_of along n us = drop n along ++ map turned (reverse us)

-- an outline from place i on
abbrev pub from_place : ℕ → List ℕ → List ℕ
from_place i os = drop i os ++ take i os

module _ (fronts backs : List ℕ) where
  -- the first point of a wire, and the last
  abbrev pub first_point : List ℕ → ℕ
  first_point us = front_of fronts backs (get_or us 0 0)

  abbrev pub last_point : List ℕ → ℕ
  last_point us = back_of fronts backs (get_or (reverse us) 0 0)

  -- the outline from the wire's back on
  abbrev pub from_back : List ℕ → List ℕ → List ℕ
  from_back os us = from_place (place_in (end_from backs fronts 0 (last_point us) os)) os

  -- how many uses run until the wire's front
  abbrev pub to_front : List ℕ → List ℕ → ℕ
  to_front along us = suc (place_in (end_from fronts backs 0 (first_point us) along))

  -- from the wire's back along the outline to the wire's front, then along the wire
  abbrev pub first_cut : List ℕ → List ℕ → List ℕ
  first_cut os us = let along = from_back os us in first_of along (to_front along us) us

  -- the rest of the outline, then the wire turned
  abbrev pub second_cut : List ℕ → List ℕ → List ℕ
  second_cut os us = let along = from_back os us in second_of along (to_front along us) us

  -- the second is written after the first
  abbrev pub two_cuts : List ℕ → List ℕ → List (List ℕ)
  two_cuts os us = first_cut os us ∷ second_cut os us ∷ []

  -- the wire has a use, and its ends are on the outline
  abbrev pub ends_on : List ℕ → List ℕ → Bool
  ends_on os us = ltb 0 (length us) && has (last_point us) (map (front_of fronts backs) os) && has (first_point us) (map (back_of fronts backs) os)

  -- 28, 17: each of two results by itself
  abbrev pub two_faults : List ℕ → List ℕ → ℕ → ℕ → List FaceEditError
  two_faults a b m k = result_faults (keeps_rule fronts backs (a ∷ []) && keeps_rule fronts backs (b ∷ [])) (a ∷ b ∷ []) m k

  -- 19, 28, 17: an outline and a wire
  abbrev pub outline_cut_faults : List ℕ → List ℕ → ℕ → ℕ → List FaceEditError
  outline_cut_faults os us m k = unless (ends_on os us) EndsNotOnWire ++ two_faults (first_cut os us) (second_cut os us) m k

-- the face's only outline
abbrev pub outline_of : Content → ℕ → List ℕ
outline_of c f = get_or (boundaries c f) 0 []

abbrev pub cut_in_two : Content → ℕ → List ℕ → List (List ℕ)
cut_in_two c f us = two_cuts (fronts_in c) (backs_in c) (outline_of c f) us

-- 3, 18, 19, 28, 17
abbrev pub cut_face_faults : Content → ℕ → List ℕ → ℕ → ℕ → List FaceEditError
cut_face_faults c f us m k =
    unless (is_face c f && are_uses c us) Unnamed
    ++ unless (eqb (length (boundaries c f)) 1) NotOneWire
    ++ outline_cut_faults (fronts_in c) (backs_in c) (outline_of c f) us m k

-- ---- glue

-- the first face's uses are kept by front point
abbrev pub kept_of : Content → ℕ → Kept
kept_of c f = keep (front_in c) (back_in c) (flat (boundaries c f)) (replicate (length c.points) None)

-- one use of the second face. If one kept at its back ends at its front, both go when the edge is the same, else none (21); otherwise it is kept at its front, replacing what was there
abbrev pub meet : Content → ℕ → Option ℕ → Kept → Option Kept
meet c u None kept = Some (set kept (front_in c u) (Some u))
meet c u (Some v) kept = pick (eqb (back_in c v) (front_in c u)) (pick (eqb (edge_number u) (edge_number v)) (Some (set kept (back_in c u) None)) None) (Some (set kept (front_in c u) (Some u)))

abbrev pub and_then : Option Kept → (Kept → Option Kept) → Option Kept
and_then None next = None
and_then (Some kept) next = next kept

unfoldable pub meet_all : Content → List ℕ → Kept → Option Kept
meet_all c [] kept = Some kept
meet_all c (u ∷ us) kept = and_then (meet c u (get_or kept (back_in c u) None) kept) (meet_all c us)

-- what stays is chained, each outline from the lowest point left
abbrev pub chain_at : Content → Option ℕ → ℕ → Kept → (Kept → List (List ℕ)) → List (List ℕ)
chain_at c None p kept rest = rest kept
chain_at c (Some u) p kept rest = let r = chain (front_in c) (back_in c) (suc (length kept)) p kept 0 in r.opening ∷ rest r.kept

unfoldable pub chained : Content → List ℕ → Kept → List (List ℕ)
chained c [] kept = []
chained c (p ∷ ps) kept = chain_at c (get_or kept p None) p kept (chained c ps)

abbrev pub glued_of : Content → Option Kept → List (List ℕ)
glued_of c None = []
glued_of c (Some kept) = chained c (numbers (length c.points)) kept

abbrev pub meeting : Content → ℕ → ℕ → Option Kept
meeting c f g = meet_all c (flat (boundaries c g)) (kept_of c f)

abbrev pub glued : Content → ℕ → ℕ → List (List ℕ)
glued c f g = glued_of c (meeting c f g)

abbrev pub is_some : Option Kept → Bool
is_some None = false
is_some (Some kept) = true

abbrev pub surface_of : Content → ℕ → ℕ
surface_of c f = (get_or c.faces (face_number f) zero_face).surface

-- 22, 28, 17: the chained outlines
abbrev pub left_faults : Content → List (List ℕ) → ℕ → ℕ → List FaceEditError
left_faults c wires m k = unless (ltb 0 (length wires)) NothingRemains ++ result_faults (keeps_rule (fronts_in c) (backs_in c) wires) wires m k

-- 21, 22, 28, 17: what is kept
abbrev pub met_faults : Content → Option Kept → ℕ → ℕ → List FaceEditError
met_faults c kept m k = unless (is_some kept) OppositeEdges ++ left_faults c (glued_of c kept) m k

-- 3, 20, 21, 22, 28, 17
abbrev pub glue_faults : Content → ℕ → ℕ → ℕ → ℕ → List FaceEditError
glue_faults c f g m k =
    unless (is_face c f && is_face c g) Unnamed
    ++ unless (eqb (surface_of c f) (surface_of c g) && eqb (f / 32768) (g / 32768)) FacesDiffer
    ++ met_faults c (meeting c f g) m k
