-- The record lines of an accepted pattern, and what they make.
use Prim.Native.Nat.{◌≤◌, ℕ}
use mathlib.Core.Bool.{false}
use mathlib.Core.List.{List, [], ◌++◌, append_assoc, map}
use mathlib.Core.Path.{◌∙◌, ◌≡◌, ap, sym}
use native.Mathlib.Omega.{arith}
use lib.Ieee.{binary64, to_bits}
use lib.ListN.{get_or, length}
use Rattle.draft_parts.specs.Parts.{nothing}
use Rattle.lists.proofs.Flat.{tabulate_ext}
use Rattle.lists.proofs.Laws.{map_tabulate}
use Rattle.lists.specs.Lists.{flat, tabulate}
use Rattle.pattern.specs.Checks.{content_faults, count_faults, outlines}
use Rattle.pattern.specs.Contents.{Content, counts_of, zero_edge, zero_face}
use Rattle.pattern_file.proofs.Fits.{Fits}
use Rattle.show_text.specs.PatternText.{line_of_edge, line_of_face, line_of_point, line_of_shell, record_lines}
use Rattle.text.specs.Text.{lines}
use Rattle.draft_text.specs.TextPattern.{has_mark, said, text_content, text_faults}
use Rattle.text_round_trip.proofs.Counts.{partly_all, partly_room, room_weight}
use Rattle.text_round_trip.proofs.Lines.{edge_line_lem, face_line_lem, point_line_lem, shell_line_lem}
use Rattle.text_round_trip.proofs.Regions.{Region, region, region_then}
use Rattle.text_round_trip.proofs.Sentences.{lined, lines_text, plain_unmarked, plain_unsaid, sentence, text, text_append}
use Rattle.text_round_trip.proofs.States.{lists, partly, partly_none}
use Rattle.text_round_trip.proofs.Steps.{edge_step, edge_line_words, face_step, face_line_words, point_step, point_line_words, shell_step, shell_line_words, summed, uses_small}

text_table : (n : ℕ) (line : ℕ → List ℕ) (f : ℕ → List (List ℕ)) → ((k : ℕ) → line k ≡ lined (sentence (f k))) → flat (tabulate n line) ≡ text (tabulate n f)
text_table n line f e =
    ap flat
    (tabulate_ext n line (λ (k : ℕ). lined (sentence (f k))) (λ k h. e k)
    ∙ sym (map_tabulate lined n (λ (k : ℕ). sentence (f k)))
    ∙ ap (map lined) (sym (map_tabulate sentence n f)))

text_four : (a b c d : List (List (List ℕ))) → text a ++ text b ++ text c ++ text d ≡ text (a ++ (b ++ (c ++ d)))
text_four a b c d =
    rw (text_append a (b ++ (c ++ d)), text_append b (c ++ d), text_append c d) (right (text a) (text b) (text c) (text d))
  where
    right : (x y z w : List ℕ) → x ++ y ++ z ++ w ≡ x ++ (y ++ (z ++ w))
    right x y z w = simp append_assoc

module _ (c : Content) (few : count_faults (counts_of c) ≡ []) (ok : content_faults c ≡ []) (fit : Fits c) where
  abbrev a : ℕ
  a = length c.points

  abbrev b : ℕ
  b = length c.edges

  abbrev f : ℕ
  f = length c.faces

  abbrev s : ℕ
  s = length c.shells

  -- the words of all lines
  abbrev all : List (List (List ℕ))
  all = tabulate a (point_line_words c) ++ (tabulate b (edge_line_words c) ++ (tabulate f (face_line_words c) ++ tabulate s (shell_line_words c)))

  text_is : record_lines c ≡ text all
  text_is =
      let points = text_table a (line_of_point c) (point_line_words c) (λ k. point_line_lem k (get_or c.points k 0)) in
      let edges =
      text_table b (line_of_edge c) (edge_line_words c)
      (λ k. let e = get_or c.edges k zero_edge in edge_line_lem k e.front.0 e.back.0 (to_bits binary64 e.curve.t0) (to_bits binary64 e.curve.t1)) in
      let faces = text_table f (line_of_face c) (face_line_words c) (λ k. face_line_lem k (get_or c.faces k zero_face).surface (get_or (outlines c) k []) (uses_small c few ok fit k)) in
      let shells = text_table s (line_of_shell c) (shell_line_words c) (λ k. shell_line_lem k (get_or (lists c) k [])) in
      (λ i. points i ++ edges i ++ faces i ++ shells i) ∙ text_four (tabulate a (point_line_words c)) (tabulate b (edge_line_words c)) (tabulate f (face_line_words c)) (tabulate s (shell_line_words c))

  -- the lines make the whole pattern
  lines_read : Region (partly c 0 0 0 0) all (partly c a b f s)
  lines_read =
      region_then (region a (λ (i : ℕ). partly c i 0 0 0) (point_line_words c) (point_step c few ok fit))
      (region_then (region b (λ (i : ℕ). partly c a i 0 0) (edge_line_words c) (edge_step c few ok fit a))
      (region_then (region f (λ (i : ℕ). partly c a b i 0) (face_line_words c) (face_step c few ok fit a b))
      (region s (λ (i : ℕ). partly c a b f i) (shell_line_words c) (shell_step c few ok fit a b f))))

  lines_are : lines (record_lines c) ≡ map sentence all
  lines_are = ap lines text_is ∙ lines_text all lines_read.are

  pub no_fault_lem : text_faults nothing 1 (lines (record_lines c)) ≡ []
  no_fault_lem = rw (lines_are, ← partly_none c) (lines_read.right 1)

  pub same_content : text_content (record_lines c) ≡ c
  same_content = rw (lines_are, ← partly_none c, lines_read.reach) (partly_all c (summed c few ok fit))

  pub unsaid : said (lines (record_lines c)) ≡ false
  unsaid = rw lines_are (plain_unsaid all lines_read.are lines_read.plain)

  pub unmarked : has_mark (record_lines c) ≡ false
  unmarked = rw text_is (plain_unmarked all lines_read.are lines_read.plain)

  pub not_long : length (record_lines c) ≤ 262144
  not_long = omega (arith, ap length text_is, lines_read.long, room_weight (partly c a b f s) (partly_room c (summed c few ok fit) a b f s))
