-- The lines of an accepted pattern, each read after those before it.
use Prim.Native.Nat.{◌<◌, suc, ℕ}
use mathlib.Core.List.{List, [], ◌∷◌, map}
use mathlib.Core.Path.{◌∙◌, ◌≡◌, refl}
use native.Mathlib.Omega.{arith}
use lib.Ieee.{binary64, to_bits}
use lib.Ieee.Bits.{of_bits-to_bits, to_bits-lt}
use lib.ListN.{get_or-map, drop, get_or, length, length-drop, length-take}
use Rattle.edge.specs.Edges.{edge}
use Rattle.face.specs.Faces.{wire_count}
use Rattle.listing.proofs.Laws.{shells_summed}
use Rattle.lists.proofs.Count.{All, all_at, all_each, all_split}
use Rattle.lists.proofs.Laws.{length_split}
use Rattle.lists.specs.Lists.{split}
use Rattle.pattern.proofs.Counts.{limited}
use Rattle.pattern.proofs.Named.{faces_summed, wires_summed}
use Rattle.pattern.proofs.Passed.{content_passed}
use Rattle.pattern.specs.Checks.{content_faults, count_faults, outlines}
use Rattle.pattern.specs.Contents.{Content, counts_of, zero_edge, zero_face}
use Rattle.pattern_file.proofs.Fits.{Fits}
use Rattle.text_round_trip.proofs.Adds.{Few, edge_of}
use Rattle.text_round_trip.proofs.Counts.{Summed, next_edge, next_face, next_point, next_shell, partly_room, room_few}
use Rattle.text_round_trip.proofs.Lines.{Small, edge_words, face_words, point_words, shell_words}
use Rattle.text_round_trip.proofs.Regions.{Step, step_of}
use Rattle.text_round_trip.proofs.Says.{edge_says, face_says, point_says, shell_says}
use Rattle.text_round_trip.proofs.States.{edge_more, face_more, lists, partly, point_more, shell_more, split_length}

-- no part is longer than the list
parts_few {ℓ} : {A : Type ℓ} (m : ℕ) (ns : List ℕ) (xs : List A) → length xs < m → All (λ (ys : List A). length ys < m) (split ns xs)
unfolding split
parts_few m [] xs h = tt
parts_few m (n ∷ ns) xs h = (omega (arith, length-take n xs), parts_few m ns (drop n xs) (omega (arith, length-drop n xs)))

module _ (c : Content) where
  -- the words of each line
  abbrev pub point_line_words : ℕ → List (List ℕ)
  point_line_words j = point_words j (get_or c.points j 0)

  abbrev pub edge_line_words : ℕ → List (List ℕ)
  edge_line_words j =
      let e = get_or c.edges j zero_edge in
      edge_words j e.front.0 e.back.0 (to_bits binary64 e.curve.t0) (to_bits binary64 e.curve.t1)

  -- the wires of face j
  abbrev pub wires_at : ℕ → List (List ℕ)
  wires_at j = get_or (outlines c) j []

  abbrev pub face_line_words : ℕ → List (List ℕ)
  face_line_words j = face_words j (get_or c.faces j zero_face).surface (wires_at j)

  abbrev pub shell_line_words : ℕ → List (List ℕ)
  shell_line_words j = shell_words j (get_or (lists c) j [])

module _ (c : Content) (few : count_faults (counts_of c) ≡ []) (ok : content_faults c ≡ []) (fit : Fits c) where
  pub summed : Summed c
  summed =
      let right = (content_passed c ok).records in
      record {
        few = limited (counts_of c) refl few;
        uses = wires_summed c right;
        wires = faces_summed c right;
        listings = shells_summed c right;
      }

  room : (a b f n : ℕ) → count_faults (counts_of (partly c a b f n)) ≡ []
  room a b f n = room_few (partly c a b f n) (partly_room c summed a b f n)

  -- ---- points

  pub point_step : (j : ℕ) → j < length c.points → Step (λ (i : ℕ). partly c i 0 0 0) (point_line_words c) j
  point_step j h =
      step_of (point_says j (get_or c.points j 0) (omega (arith, summed.few.points)) (fit.points j h)) refl
      (next_point c j 0 0 0 (omega arith)) (point_more c j 0 0 0 h) (room (suc j) 0 0 0)

  -- ---- edges

  -- the edge that the line of edge j says
  edge_back : (j : ℕ) → j < length c.edges
      → (let e = get_or c.edges j zero_edge in edge_of e.front.0 e.back.0 (to_bits binary64 e.curve.t0) (to_bits binary64 e.curve.t1) ≡ e)
  edge_back j h =
      let e = get_or c.edges j zero_edge in
      let f = fit.edges j h in
      λ i. edge e.front e.back (record { t0 = of_bits-to_bits binary64 e.curve.t0 f.t0 i; t1 = of_bits-to_bits binary64 e.curve.t1 f.t1 i })

  pub edge_step : (a j : ℕ) → j < length c.edges → Step (λ (i : ℕ). partly c a i 0 0) (edge_line_words c) j
  edge_step a j h =
      let e = get_or c.edges j zero_edge in
      let f = fit.edges j h in
      let says = edge_says j e.front.0 e.back.0 (to_bits binary64 e.curve.t0) (to_bits binary64 e.curve.t1) (omega (arith, summed.few.edges)) f.front f.back (to_bits-lt binary64 e.curve.t0 f.t0) (to_bits-lt binary64 e.curve.t1 f.t1) in
      step_of says refl (next_edge c a j 0 0 (omega arith)) (rw (edge_back j h) (edge_more c a j 0 0 h)) (room a (suc j) 0 0)

  -- ---- faces

  abbrev counts : List ℕ
  counts = map wire_count c.faces

  abbrev wires : List (List ℕ)
  wires = split c.wires c.uses

  pub uses_small : (j : ℕ) → All (All Small) (wires_at c j)
  uses_small j = all_at (All (All Small)) [] tt (outlines c) (all_split (All Small) counts wires (all_split Small c.wires c.uses (all_each Small 0 c.uses fit.uses))) j

  uses_few : (j : ℕ) → Few (wires_at c j)
  uses_few j =
      all_at Few [] tt (outlines c)
      (all_split (λ (us : List ℕ). length us < 65536) counts wires (parts_few 65536 c.wires c.uses (omega (arith, summed.few.uses)))) j

  wires_few : (j : ℕ) → length (wires_at c j) < 65536
  wires_few j =
      all_at (λ (ws : List (List ℕ)). length ws < 65536) [] (omega arith) (outlines c)
      (parts_few 65536 counts wires (omega (arith, length_split c.wires c.uses, summed.few.wires))) j

  wires_counted : (j : ℕ) → length (wires_at c j) ≡ (get_or c.faces j zero_face).wires
  wires_counted j =
      split_length counts wires (omega (arith, summed.wires, length_split c.wires c.uses)) j
      ∙ get_or-map wire_count c.faces j zero_face

  pub face_step : (a b j : ℕ) → j < length c.faces → Step (λ (i : ℕ). partly c a b i 0) (face_line_words c) j
  face_step a b j h =
      step_of (face_says j (get_or c.faces j zero_face).surface (wires_at c j) (omega (arith, summed.few.faces)) (fit.faces j h).surface (uses_small j) (uses_few j) (wires_few j)) refl
      (next_face c a b j 0 (omega arith)) (face_more c a b j 0 h (wires_counted j)) (room a b (suc j) 0)

  -- ---- shells

  listings_small : (j : ℕ) → All Small (get_or (lists c) j [])
  listings_small j = all_at (All Small) [] tt (lists c) (all_split Small c.shells c.listings (all_each Small 0 c.listings fit.listings)) j

  listings_few : (j : ℕ) → length (get_or (lists c) j []) < 65536
  listings_few j =
      all_at (λ (ls : List ℕ). length ls < 65536) [] (omega arith) (lists c) (parts_few 65536 c.shells c.listings (omega (arith, summed.few.listings))) j

  pub shell_step : (a b f j : ℕ) → j < length c.shells → Step (λ (i : ℕ). partly c a b f i) (shell_line_words c) j
  shell_step a b f j h =
      step_of (shell_says j (get_or (lists c) j []) (omega (arith, summed.few.shells)) (listings_small j) (listings_few j)) refl
      (next_shell c a b f j (omega arith)) (shell_more c a b f j h (split_length c.shells c.listings (omega (arith, summed.listings)) j)) (room a b f (suc j))
