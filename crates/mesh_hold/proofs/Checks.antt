-- The reading checks of an imported mesh: after the limits it can only be refused with 5, an edge with the same point at both ends, and of the face rule with 8, a wire that meets a point twice.
use Prim.Native.Nat.{◌%◌, ◌+◌, ◌<◌, suc, ℕ}
use mathlib.Core.Bool.{Bool, false, true}
use mathlib.Core.List.{List, [], ◌++◌, ◌∷◌, append-nil, map}
use mathlib.Core.Path.{◌∙◌, ◌≡◌, refl, sym}
use native.Mathlib.Numerals.{add-one}
use native.Mathlib.Omega.{arith}
use lib.Dec.{ltb}
use lib.Ieee.{le, neg, of_bits}
use lib.ListN.{get_or, length, length-append, length-map}
use borrow.Author.Tests.{eq-eqb, lt-ltb}
use Rattle.edge.specs.Edges.{back_number, front_number, in_range, is_span}
use Rattle.edge.specs.declared.Edge.{Edge}
use Rattle.errors.proofs.Laws.{each_none, unless_none}
use Rattle.errors.specs.Faults.{each}
use Rattle.errors.specs.declared.Refusal.{Refusal}
use Rattle.errors.specs.declared.Refusal.TheVariants.{Unnamed, Wire}
use Rattle.errors.specs.declared.WireError.TheVariants.{NotSimpleWire}
use Rattle.face.proofs.Laws.{one_alone}
use Rattle.face.specs.Faces.{face_rule, outline_faults, wire_count}
use Rattle.face.specs.declared.Face.{Face}
use Rattle.lists.proofs.Count.{All, all_weaker}
use Rattle.lists.proofs.Flat.{get_d_tabulate}
use Rattle.lists.proofs.Laws.{length_tabulate}
use Rattle.lists.proofs.Parts.{all_flat, all_place, split_flat}
use Rattle.lists.specs.Lists.{flat, no_dup, split, sum, unless}
use Rattle.mesh.specs.Mesh.{Mesh, between, import_content, lines_faults, lines_mesh, mesh_content, no_mesh}
use Rattle.mesh_hold.proofs.Kept.{Fine, mesh_fine}
use Rattle.mesh_hold.proofs.Sides.{Closed, Sided, backs, fronts}
use Rattle.mesh_hold.specs.MeshTheorems.{import_wires, not_simple, same_ends}
use Rattle.pattern.proofs.Counts.{limited}
use Rattle.pattern.specs.Checks.{content_faults, count_faults, edge_faults, name_faults, sum_faults}
use Rattle.pattern.specs.Contents.{Content, counts_of}
use Rattle.shell.proofs.Level.{IsUse}
use Rattle.text.specs.Text.{lines}
use Rattle.wire.specs.Wires.{points}

-- checks that agree on every record
each_same : {A : Type 0} (f g : ℕ → A → List Refusal) (i : ℕ) (xs : List A) → All (λ (x : A). (k : ℕ) → f k x ≡ g k x) xs → each f i xs ≡ each g i xs
unfolding each
each_same f g i [] h = refl
each_same f g i (x ∷ xs) h = rw (h.0 i, each_same f g (suc i) xs h.1)

pub sum_lengths : {A : Type 0} (xss : List (List A)) → sum (map length xss) ≡ length (flat xss)
unfolding sum flat
sum_lengths [] = refl
sum_lengths (xs ∷ xss) = omega (arith, sum_lengths xss, length-append xs (flat xss))

-- ---- an edge, a wire

unit_span : is_span (between 0 0).curve ≡ true
unfolding is_span in_range le neg of_bits
unit_span = refl

edge_checks : (n : ℕ) (e : Edge) → Sided n e → (k : ℕ) → edge_faults n k e ≡ same_ends k e
edge_checks n e t k =
    rw (lt-ltb (front_number e) n t.front, lt-ltb (back_number e) n t.back, t.curve, unit_span) (append-nil (same_ends k e))

one_error : (w : ℕ) (b : Bool) → map (Wire w) (unless b NotSimpleWire) ≡ unless b (Wire w NotSimpleWire)
one_error w true = refl
one_error w false = refl

wire_checks : (es : List Edge) (us : List ℕ) → Closed es us → (w : ℕ) → outline_faults (fronts es) (backs es) w us ≡ not_simple (fronts es) (backs es) w us
wire_checks es us t w = rw (lt-ltb 0 (length us) t.used, t.loops) (one_error w (no_dup (points (fronts es) (backs es) us)))

-- ---- the bodies

-- the face of a wire
abbrev pub face_of : List ℕ → Face
face_of us = record { wires = 1; surface = 0 }

sum_faces : (wires : List (List ℕ)) → sum (map wire_count (map face_of wires)) ≡ length wires
unfolding sum
sum_faces [] = refl
sum_faces (us ∷ wires) = omega (arith, sum_faces wires)

rule_checks : (es : List Edge) (w : ℕ) (wires : List (List ℕ)) → All (Closed es) wires
    → face_rule (fronts es) (backs es) w (split (map wire_count (map face_of wires)) wires) ≡ each (not_simple (fronts es) (backs es)) w wires
unfolding face_rule each split
rule_checks es w [] h = refl
rule_checks es w (us ∷ wires) h =
    rw (one_alone (fronts es) (backs es) w (us ∷ []) (omega arith), add-one, rule_checks es (suc w) wires h.1, wire_checks es us h.0 w) (simp append-nil)

module _ (m : Mesh) (h : Fine m m) where
  abbrev c : Content
  c = mesh_content m

  edges_checked : each (edge_faults (length c.points)) 0 c.edges ≡ each same_ends 0 c.edges
  edges_checked =
      let n = length m.points in
      each_same (edge_faults n) same_ends 0 m.edges
      (all_weaker (Sided n) (λ (e : Edge). (k : ℕ) → edge_faults n k e ≡ same_ends k e) (edge_checks n) m.edges h.edges)

  pub uses_named : All (IsUse (length c.edges)) c.uses
  uses_named =
      let P : ℕ → Type 0 = IsUse (length m.edges) in
      all_flat P m.wires (all_weaker (Closed m.edges) (All P) (λ us t. t.named) m.wires h.wires)

  uses_checked : each (name_faults 2 (length c.edges)) 0 c.uses ≡ []
  uses_checked =
      let n = length m.edges in
      each_none (name_faults 2 n) 0 0 c.uses
      (λ k l. let u = get_or c.uses k 0 in unless_none (ltb (u % 32768) n) (Unnamed 2 (0 + k)) (lt-ltb (u % 32768) n (all_place (IsUse n) 0 c.uses uses_named k l).1))

  wires_checked : sum_faults 3 c.wires (length c.uses) ≡ []
  wires_checked = rw (eq-eqb (sum c.wires) (length c.uses) (sum_lengths m.wires))

  faces_checked : sum_faults 4 (map wire_count c.faces) (length c.wires) ≡ []
  faces_checked = rw (eq-eqb (sum (map wire_count c.faces)) (length c.wires) (sum_faces m.wires ∙ sym (length-map m.wires length)))

  shells_checked : sum_faults 5 c.shells (length c.listings) ≡ []
  unfolding sum
  shells_checked = let n = length m.wires in rw (eq-eqb (sum c.shells) (length c.listings) (omega (arith, length_tabulate n (λ (k : ℕ). k))))

  listings_checked : each (name_faults 6 (length c.faces)) 0 c.listings ≡ []
  listings_checked =
      let n = length m.wires in
      let f = length c.faces in
      each_none (name_faults 6 f) 0 0 c.listings
      (λ k l.
      let u = get_or c.listings k 0 in
      let low : k < n = omega (arith, length_tabulate n (λ (j : ℕ). j)) in
      unless_none (ltb (u % 32768) f) (Unnamed 6 (0 + k))
      (lt-ltb (u % 32768) f (omega (arith, get_d_tabulate n (λ (j : ℕ). j) k 0 low, length-map m.wires face_of))))

  mesh_checks : content_faults c ≡ each same_ends 0 c.edges ++ each (not_simple (fronts c.edges) (backs c.edges)) 0 m.wires
  mesh_checks =
      rw (edges_checked, uses_checked, wires_checked, faces_checked, shells_checked, listings_checked, split_flat m.wires, rule_checks m.edges 0 m.wires h.wires)
      (simp append-nil)

pub import_fine : (s : List ℕ) → lines_faults 1 no_mesh (lines s) ≡ [] → count_faults (counts_of (import_content s)) ≡ []
    → Fine (lines_mesh 1 no_mesh (lines s)) (lines_mesh 1 no_mesh (lines s))
import_fine s ok few = mesh_fine (lines s) ok (omega (arith, (limited (counts_of (import_content s)) refl few).edges))

-- after the limits, in sequence: edges with the same point at both ends (5), then wires that meet a point twice (8)
pub import_checks : (s : List ℕ) → lines_faults 1 no_mesh (lines s) ≡ [] → count_faults (counts_of (import_content s)) ≡ []
    → content_faults (import_content s) ≡ each same_ends 0 (import_content s).edges
    ++ each (not_simple (map front_number (import_content s).edges) (map back_number (import_content s).edges)) 0 (import_wires s)
import_checks s ok few = mesh_checks (lines_mesh 1 no_mesh (lines s)) (import_fine s ok few)
