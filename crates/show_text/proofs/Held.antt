-- The lines of the records in the store are those of the pattern that it holds.
use Prim.Native.Nat.{◌<◌, ◌≤◌, ℕ}
use mathlib.Core.Bool.{Bool, false, true}
use mathlib.Core.List.{List, [], ◌++◌, map}
use mathlib.Core.Path.{◌∙◌, ◌≡◌, ap, sym}
use native.Mathlib.Omega.{arith}
use lib.Ieee.{Float}
use lib.ListN.{get_or, length, take}
use lib.Seq.{get_or-take}
use Rattle.draft_parts.specs.Parts.{bare}
use Rattle.edge.specs.Edges.{is_span}
use Rattle.face.specs.Faces.{wire_count}
use Rattle.listing.proofs.Laws.{shells_summed}
use Rattle.lists.proofs.Flat.{get_d_tabulate}
use Rattle.lists.proofs.Laws.{map_take}
use Rattle.lists.proofs.Split.{split_take, take_split}
use Rattle.lists.specs.Lists.{flat, split, sum, tabulate}
use Rattle.output.specs.Text.{ascii}
use Rattle.pattern.proofs.Counts.{Full, Limited, edges_counted, faces_counted, limited, listings_counted, points_counted, shells_counted, uses_counted, wires_counted}
use Rattle.pattern.proofs.Named.{faces_summed, wires_summed}
use Rattle.pattern.proofs.Passed.{content_passed, pattern_passed}
use Rattle.pattern.specs.Checks.{content_faults, outlines, pattern_faults, record_faults}
use Rattle.pattern.specs.Contents.{Content, Pattern, content, counts_of, zero_edge, zero_face}
use Rattle.pattern_file.proofs.WriteBack.{span}
use Rattle.show_lines.specs.PatternLines.{face_line, point_line, shell_line}
use Rattle.show_text.proofs.Laws.{lines_same}
use Rattle.show_text.specs.PatternText.{edge_text, line_of_edge, line_of_face, line_of_point, line_of_shell, pattern_text, record_lines}
use Rattle.show_text.specs.StoreText.{Faced, Shelled, edge_held, face_held, point_held, shell_held}
use Rattle.store.proofs.View.{held_full, held_seven, held_wire_counts}
use Rattle.store.specs.Store.{edge_in, face_in, held, label_in, listing_table, shell_table, use_table, wire_table}
use Rattle.store.specs.Columns.{face_table}

-- one of the first n records of a table
get_d_first {ℓ} : {A : Type ℓ} (n most : ℕ) (f : ℕ → A) (k : ℕ) (d : A) → n ≤ most → k < n → get_or (take n (tabulate most f)) k d ≡ f k
get_d_first n most f k d few h = get_or-take n (tabulate most f) k d h ∙ get_d_tabulate most f k d (omega arith)

-- an accepted pattern
module _ (t : List ℕ) (spans : List Float) (long : length t ≡ 12312) (ok : pattern_faults (held t spans) ≡ []) where
  abbrev P : Pattern
  P = held t spans

  abbrev C : Content
  C = content P

  -- how many points, edges, uses, ..
  abbrev n : ℕ → ℕ
  n b = get_or P.counts b 0

  full : Full P
  full = held_full t spans long

  pub few : Limited P.counts
  few = limited P.counts (held_seven t spans long) (pattern_passed P ok).counts

  right : content_faults C ≡ []
  right = (pattern_passed P ok).content

  records_right : record_faults C ≡ []
  records_right = (content_passed C right).records

  -- ---- what the functions require

  pub spans_right : (k : ℕ) → k < n 1 → is_span (edge_in t spans k).curve ≡ true
  spans_right k h =
      rw (get_d_first (n 1) 1024 (edge_in t spans) k zero_edge few.edges h) at (span C right k (omega (arith, edges_counted P few full)))

  wire_counts : take (n 4) (face_table t) ≡ map wire_count C.faces
  wire_counts = ap (take (n 4)) (held_wire_counts t spans long) ∙ sym (map_take wire_count (n 4) P.faces)

  face_sums : sum (take (n 4) (face_table t)) ≡ n 3
  face_sums = ap sum wire_counts ∙ faces_summed C records_right ∙ wires_counted P few full

  wire_sums : sum (take (n 3) (wire_table t)) ≡ n 2
  wire_sums = wires_summed C records_right ∙ uses_counted P few full

  pub faced : Faced t (n 4)
  faced = record { few = few.faces; wires = omega (arith, face_sums, few.wires); uses = rw face_sums (omega (arith, wire_sums, few.uses)) }

  shell_sums : sum (take (n 5) (shell_table t)) ≡ n 6
  shell_sums = shells_summed C records_right ∙ listings_counted P few full

  pub shelled : Shelled t (n 5)
  shelled = record { few = few.shells; listings = omega (arith, shell_sums, few.listings) }

  -- ---- the lines

  outlines_are : outlines C ≡ split (take (n 4) (face_table t)) (split (wire_table t) (use_table t))
  outlines_are =
      let wires : split C.wires C.uses ≡ take (n 3) (split (wire_table t) (use_table t)) =
      split_take C.wires (n 2) (use_table t) (omega (arith, wire_sums)) ∙ sym (take_split (n 3) (wire_table t) (use_table t)) in
      rw (← wire_counts, wires) (split_take (take (n 4) (face_table t)) (n 3) (split (wire_table t) (use_table t)) (omega (arith, face_sums)))

  listings_are : split C.shells C.listings ≡ split (take (n 5) (shell_table t)) (listing_table t)
  listings_are = split_take C.shells (n 6) (listing_table t) (omega (arith, shell_sums))

  lines_held : record_lines C ≡ flat (tabulate (n 0) (point_held t)) ++ flat (tabulate (n 1) (edge_held t spans)) ++ flat (tabulate (n 4) (face_held t (n 4))) ++ flat (tabulate (n 5) (shell_held t (n 5)))
  lines_held =
      let p =
      lines_same (points_counted P few full) (line_of_point C) (point_held t)
      (λ k h. ap (point_line k) (get_d_first (n 0) 2048 (label_in t) k 0 few.points h)) in
      let e =
      lines_same (edges_counted P few full) (line_of_edge C) (edge_held t spans)
      (λ k h. ap (edge_text k) (get_d_first (n 1) 1024 (edge_in t spans) k zero_edge few.edges h)) in
      let f =
      lines_same (faces_counted P few full) (line_of_face C) (face_held t (n 4))
      (λ k h i. face_line k (get_d_first (n 4) 256 (face_in t) k zero_face few.faces h i).surface (get_or (outlines_are i) k [])) in
      let s =
      lines_same (shells_counted P few full) (line_of_shell C) (shell_held t (n 5))
      (λ k h. ap (λ (r : List (List ℕ)). shell_line k (get_or r k [])) listings_are) in
      λ i. p i ++ e i ++ f i ++ s i

  -- ---- the text, by whether there are records

  same_bare : bare (counts_of C) ≡ bare P.counts
  same_bare = rw (points_counted P few full, edges_counted P few full, faces_counted P few full, shells_counted P few full)

  module _ (b : Bool) (is_bare : b ≡ bare P.counts) where
    pub text_empty : b ≡ true → pattern_text C ≡ ascii "empty\n"
    unfolding pattern_text
    text_empty h = rw (same_bare, ← is_bare, h)

    pub text_held : b ≡ false → pattern_text C ≡ flat (tabulate (n 0) (point_held t)) ++ flat (tabulate (n 1) (edge_held t spans)) ++ flat (tabulate (n 4) (face_held t (n 4))) ++ flat (tabulate (n 5) (shell_held t (n 5)))
    unfolding pattern_text
    text_held h = rw (same_bare, ← is_bare, h) lines_held
