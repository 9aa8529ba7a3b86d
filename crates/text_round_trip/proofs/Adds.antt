-- What each line adds: the parts of its record.
use Prim.Native.Nat.{◌<◌, min, ℕ}
use mathlib.Core.List.{List, [], ◌++◌, ◌∷◌, append-nil, map}
use mathlib.Core.Path.{◌∙◌, ◌≡◌, ap, refl}
use native.Mathlib.Omega.{arith}
use lib.Ieee.{binary64, of_bits}
use lib.ListN.{length}
use borrow.Author.Tests.{ne_eqb}
use Rattle.edge.specs.Edges.{edge}
use Rattle.edge.specs.declared.Edge.{Edge}
use Rattle.draft_forms.specs.declared.LineKind.{LineKind}
use Rattle.draft_forms.specs.LineForms.{line_kind, line_values}
use Rattle.draft_parts.specs.Parts.{face_parts, marked, parts_of, wire_lengths}
use Rattle.lists.proofs.Count.{All, all_weaker}
use Rattle.lists.proofs.Parts.{map_same}
use Rattle.lists.specs.Lists.{flat}
use Rattle.pattern.specs.Contents.{Content}
use Rattle.draft_text.specs.TextPattern.{line_parts}
use Rattle.text_round_trip.proofs.Lines.{Small, edge_words, face_words, marks, point_words, shell_words}
use Rattle.text_round_trip.proofs.Values.{edge_kind, edge_values, face_kind, face_values_lem, point_kind, point_values, shell_kind, shell_values}
use Rattle.words.specs.Words.{short}

short_is : (n : ℕ) → n < 65536 → short n ≡ n
short_is n h = omega arith

-- what a line of known kind and values says
parts_are : (ws : List (List ℕ)) {kind : LineKind} {vs : List ℕ} → line_kind ws ≡ kind → line_values ws ≡ vs → line_parts ws ≡ parts_of kind vs
parts_are ws e f = λ i. parts_of (e i) (f i)

-- ---- the parts of each record

abbrev pub point_part : ℕ → Content
point_part label = record { points = label ∷ []; edges = []; uses = []; wires = []; faces = []; shells = []; listings = [] }

abbrev pub edge_part : Edge → Content
edge_part e = record { points = []; edges = e ∷ []; uses = []; wires = []; faces = []; shells = []; listings = [] }

abbrev pub face_part : ℕ → List (List ℕ) → Content
face_part surface wires = record {
  points = [];
  edges = [];
  uses = flat wires;
  wires = map length wires;
  faces = record { wires = length wires; surface = surface } ∷ [];
  shells = [];
  listings = [];
}

abbrev pub shell_part : List ℕ → Content
shell_part listings = record { points = []; edges = []; uses = []; wires = []; faces = []; shells = length listings ∷ []; listings = listings }

-- ---- points and edges

-- an edge by its numbers and the bits of its ends
abbrev pub edge_of : ℕ → ℕ → ℕ → ℕ → Edge
edge_of front back t0 t1 = edge (record { 0 = front }) (record { 0 = back }) (record { t0 = of_bits binary64 t0; t1 = of_bits binary64 t1 })

pub point_parts_lem : (k label : ℕ) → k < 1000000000 → label < 4294967296 → line_parts (point_words k label) ≡ point_part label
unfolding parts_of
point_parts_lem k label h l =
    let e : min label 4294967295 ≡ label = omega arith in
    parts_are (point_words k label) (point_kind k label) (point_values k label h l) ∙ ap point_part e

pub edge_parts_lem : (k front back t0 t1 : ℕ) → k < 1000000000 → Small front → Small back → t0 < 18446744073709551616 → t1 < 18446744073709551616
    → line_parts (edge_words k front back t0 t1) ≡ edge_part (edge_of front back t0 t1)
unfolding parts_of
edge_parts_lem k front back t0 t1 h f b p q =
    parts_are (edge_words k front back t0 t1) (edge_kind k front back t0 t1) (edge_values k front back t0 t1 h (omega arith) (omega arith) p q)
    ∙ (λ i. edge_part (edge_of (short_is front f i) (short_is back b i) t0 t1))

-- ---- faces

marked_uses : (us rest x : List ℕ) (xs : List (List ℕ)) → All Small us → marked rest ≡ x ∷ xs → marked (us ++ rest) ≡ (us ++ x) ∷ xs
unfolding marked
marked_uses [] rest x xs h e = e
marked_uses (u ∷ us) rest x xs h e = rw (ne_eqb u 65536 (λ z. omega (arith, h.0)), marked_uses us rest x xs h.1 e, short_is u h.0)

marked_marks : (wires : List (List ℕ)) → All (All Small) wires → marked (marks wires) ≡ [] ∷ wires
unfolding marked flat
marked_marks [] h = refl
marked_marks (us ∷ wires) h = rw (marked_uses us (marks wires) [] wires h.0 (marked_marks wires h.1), append-nil us)

-- few uses in each wire
abbrev pub Few : List (List ℕ) → Type 0
Few wires = All (λ (us : List ℕ). length us < 65536) wires

lengths_are : (wires : List (List ℕ)) → Few wires → wire_lengths wires ≡ map length wires
lengths_are wires h = map_same (λ (us : List ℕ). short (length us)) length wires (all_weaker (λ (us : List ℕ). length us < 65536) (λ (us : List ℕ). short (length us) ≡ length us) (λ us l. short_is (length us) l) wires h)

face_is : (k surface : ℕ) (wires : List (List ℕ)) → surface < 65536 → All (All Small) wires → Few wires → length wires < 65536
    → face_parts (k ∷ 65536 ∷ surface ∷ marks wires) ≡ face_part surface wires
face_is k surface wires s u f n =
    rw (marked_marks wires u)
    (λ i. record {
      points = [];
      edges = [];
      uses = flat wires;
      wires = lengths_are wires f i;
      faces = record { wires = short_is (length wires) n i; surface = short_is surface s i } ∷ [];
      shells = [];
      listings = [];
    })

pub face_parts_lem : (k surface : ℕ) (wires : List (List ℕ)) → k < 1000000000 → surface < 65536 → All (All Small) wires → Few wires → length wires < 65536
    → line_parts (face_words k surface wires) ≡ face_part surface wires
unfolding parts_of
face_parts_lem k surface wires h s u f n =
    parts_are (face_words k surface wires) (face_kind k surface wires) (face_values_lem k surface wires h s u)
    ∙ face_is k surface wires s u f n

-- ---- shells

shorts_are : (us : List ℕ) → All Small us → map short us ≡ us
shorts_are [] h = refl
shorts_are (u ∷ us) h = rw (short_is u h.0, shorts_are us h.1)

pub shell_parts_lem : (k : ℕ) (listings : List ℕ) → k < 1000000000 → All Small listings → length listings < 65536 → line_parts (shell_words k listings) ≡ shell_part listings
unfolding parts_of
shell_parts_lem k listings h l n =
    parts_are (shell_words k listings) (shell_kind k listings) (shell_values k listings h l)
    ∙ (λ i. record { points = []; edges = []; uses = []; wires = []; faces = []; shells = short_is (length listings) n i ∷ []; listings = shorts_are listings l i })
