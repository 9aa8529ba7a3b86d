-- The pairs of a shell of a sound pattern, and what their columns hold: the faces that they show.
use Prim.Native.Nat.{◌+◌, ◌-◌, ◌<◌, ◌≤◌, suc, ℕ}
use mathlib.Core.Bool.{false, true}
use mathlib.Core.List.{List, [], ◌∷◌, map, map-append, map-map}
use mathlib.Core.Logic.{⊎_elim}
use mathlib.Core.Path.{◌∙◌, ◌≡◌, ap, refl, sym}
use native.Mathlib.Omega.{arith}
use lib.Dec.{leb, ltb}
use lib.ListN.{drop, get_or, length, length-drop, length-map, length-take}
use lib.Seq.{length-take-le}
use borrow.Author.Tests.{le-ltb, lt-ltb, ltb-false, ltb-true}
use Rattle.columns.proofs.Shells.{between_first, first_is, part_is, records_fine, shell_named}
use Rattle.columns.specs.Columns.{columns_in, first_wire}
use Rattle.columns.specs.Sound.{Sound}
use Rattle.face.specs.Faces.{wire_count}
use Rattle.listing.proofs.Laws.{shown_keeps}
use Rattle.listing.specs.Parts.{part_at}
use Rattle.lists.proofs.Parts.{map_drop, map_same, only_same, split_flat}
use Rattle.lists.proofs.Count.{All, all_only, all_weaker}
use Rattle.lists.proofs.Laws.{cases, flat_append, map_take, sum_next, sum_take_drop}
use Rattle.lists.proofs.Split.{get_d_split}
use Rattle.lists.specs.Lists.{flat, once, only, split, sum}
use Rattle.pairs.proofs.Once.{all_once}
use Rattle.pairs.specs.Pairs.{has_wires_at, lens_at, pairs_in}
use Rattle.pattern.proofs.Counts.{faces_counted, wires_counted}
use Rattle.pattern.proofs.Named.{faces_summed, wires_summed}
use Rattle.pattern.specs.Checks.{outlines}
use Rattle.pattern.specs.Contents.{Pattern, content}
use Rattle.shell.specs.Components.{has_wires, shell_pairs}
use Rattle.shell.specs.Shells.{face_number, listings_of, shown_wire, shown_wires}

-- the lengths of the parts that a list is cut into
lengths_split : {A : Type 0} (ns : List ℕ) (xs : List A) → sum ns ≤ length xs → map length (split ns xs) ≡ ns
unfolding split sum
lengths_split [] xs h = refl
lengths_split (n ∷ ns) xs h =
    rw (length-take-le n xs (omega arith), lengths_split ns (drop n xs) (omega (arith, length-drop n xs)))

lengths_same : {A : Type 0} (f : List A → List A) → ((us : List A) → length (f us) ≡ length us) → (xss : List (List A)) → map length (map f xss) ≡ map length xss
lengths_same f h [] = refl
lengths_same f h (xs ∷ xss) = rw (h xs, lengths_same f h xss)

test_rest : (a b : ℕ) → ltb a b ≡ ltb 0 (b - a)
test_rest a b =
    ⊎_elim
    (λ (t : ltb a b ≡ true). t ∙ sym (lt-ltb 0 (b - a) (omega (arith, ltb-true a b t))))
    (λ (t : ltb a b ≡ false). t ∙ sym (le-ltb 0 (b - a) (omega (arith, ltb-false a b t))))
    (cases (ltb a b))

-- ---- lists of faces in columns
-- the lengths of all wires, face after face
pub flat_lengths : {A : Type 0} (faces : List (List (List A))) → flat (map (map length) faces) ≡ map length (flat faces)
unfolding flat
flat_lengths [] = refl
flat_lengths (wires ∷ faces) = rw (map-append length wires (flat faces), flat_lengths faces)

pub flat_uses : {A : Type 0} (faces : List (List (List A))) → flat (map flat faces) ≡ flat (flat faces)
unfolding flat
flat_uses [] = refl
flat_uses (wires ∷ faces) = rw (flat_append wires (flat faces), flat_uses faces)

module _ (p : Pattern) (s : Sound p) where
  module _ (l : ℕ) (face : face_number l < length (content p).faces) where
    abbrev f : ℕ
    f = face_number l

    abbrev counts : List ℕ
    counts = map wire_count (content p).faces

    low : face_number l < get_or p.counts 4 0
    low = omega (arith, face, faces_counted p s.limits s.full)

    next_wire : first_wire p (suc (face_number l)) ≡ first_wire p (face_number l) + get_or counts (face_number l) 0
    next_wire = sum_next counts (face_number l)

    wires_end : first_wire p (suc (face_number l)) ≤ length (content p).wires
    wires_end = omega (arith, sum_take_drop (suc (face_number l)) counts, faces_summed (content p) (records_fine p s))

    -- the lengths of the wires that a listing shows
    pub lens_is : lens_at p.wires (columns_in p).firsts l ≡ map length (shown_wires (outlines (content p)) l)
    lens_is =
        let ws = (content p).wires in
        let us = (content p).uses in
        let w = first_wire p (face_number l) in
        let m = get_or counts (face_number l) 0 in
        let e : first_wire p (suc (face_number l)) - w ≡ m = omega (arith, next_wire) in
        let all : map length (split ws us) ≡ ws = lengths_split ws us (omega (arith, wires_summed (content p) (records_fine p s))) in
        rw (first_is p s (face_number l) (omega (arith, low)), first_is p s (suc (face_number l)) (omega (arith, low)))
        (sym (between_first p.wires (get_or p.counts 3 0) w (first_wire p (suc (face_number l))) (omega (arith, next_wire)) (omega (arith, wires_end, wires_counted p s.limits s.full)))
        ∙ rw (e, lengths_same (shown_wire l) (shown_keeps (leb 32768 l)) (get_or (outlines (content p)) (face_number l) []), get_d_split counts (split ws us) (face_number l), map_take length m (drop w (split ws us)), map_drop length w (split ws us), all))

    -- it has wires
    pub has_wires_is : has_wires_at (columns_in p).firsts l ≡ has_wires (outlines (content p)) l
    has_wires_is =
        let a = get_or (columns_in p).firsts (face_number l) 0 in
        let b = get_or (columns_in p).firsts (suc (face_number l)) 0 in
        let here = first_is p s (face_number l) (omega (arith, low)) in
        let next = first_is p s (suc (face_number l)) (omega (arith, low)) in
        let long : length (lens_at p.wires (columns_in p).firsts l) ≡ b - a =
        omega (arith, length-take (b - a) (drop a p.wires), length-drop a p.wires, here, next, wires_end, wires_counted p s.limits s.full, s.limits.wires, s.full.wires) in
        let same : length (map length (shown_wires (outlines (content p)) l)) ≡ length (get_or (outlines (content p)) (face_number l) []) =
        length-map (shown_wires (outlines (content p)) l) length ∙ length-map (get_or (outlines (content p)) (face_number l) []) (shown_wire l) in
        test_rest a b ∙ ap (ltb 0) (sym long ∙ ap length lens_is ∙ same)

  -- the listings of a shell
  module _ (n : ℕ) where
    abbrev Named : ℕ → Type 0
    Named l = face_number l < length (content p).faces

    pub pairs_are : pairs_in (listings_of (content p) n) (columns_in p).firsts ≡ shell_pairs (content p) n
    pairs_are =
        ap once (only_same (has_wires_at (columns_in p).firsts) (has_wires (outlines (content p))) (listings_of (content p) n)
        (all_weaker Named (λ (l : ℕ). has_wires_at (columns_in p).firsts l ≡ has_wires (outlines (content p)) l) has_wires_is (listings_of (content p) n) (shell_named p s n)))

    pub pairs_named : All Named (shell_pairs (content p) n)
    pairs_named =
        all_once Named (only (has_wires (outlines (content p))) (listings_of (content p) n))
        (all_only Named (has_wires (outlines (content p))) (listings_of (content p) n) (shell_named p s n))

    -- the faces that the pairs show
    abbrev pub pair_faces : List (List (List ℕ))
    pair_faces = map (shown_wires (outlines (content p))) (shell_pairs (content p) n)

    map_with : {A : Type 0} (g h : ℕ → A) → ((l : ℕ) → Named l → g l ≡ h l) → map g (shell_pairs (content p) n) ≡ map h (shell_pairs (content p) n)
    map_with g h e = map_same g h (shell_pairs (content p) n) (all_weaker Named (λ (l : ℕ). g l ≡ h l) e (shell_pairs (content p) n) pairs_named)

    pub pair_lens : map (lens_at p.wires (columns_in p).firsts) (shell_pairs (content p) n) ≡ map (map length) pair_faces
    pair_lens =
        map_with (lens_at p.wires (columns_in p).firsts) (λ (l : ℕ). map length (shown_wires (outlines (content p)) l)) lens_is
        ∙ sym (map-map (map length) (shown_wires (outlines (content p))) (shell_pairs (content p) n))

    pub pair_parts : map (part_at p.uses (columns_in p).turned (columns_in p).starts) (shell_pairs (content p) n) ≡ map flat pair_faces
    pair_parts =
        map_with (part_at p.uses (columns_in p).turned (columns_in p).starts) (λ (l : ℕ). flat (shown_wires (outlines (content p)) l)) (part_is p s)
        ∙ sym (map-map flat (shown_wires (outlines (content p))) (shell_pairs (content p) n))

-- what stands in the columns of lists of wires
pub record Held (faces : List (List (List ℕ))) (counts spans lens uses : List ℕ) : Type 0 where
  pub counts_are : counts ≡ map length faces
  pub spans_are : spans ≡ map (λ (wires : List (List ℕ)). length (flat wires)) faces
  pub lens_are : lens ≡ map length (flat faces)
  pub uses_are : uses ≡ flat (flat faces)

module _ {faces : List (List (List ℕ))} {counts spans lens uses : List ℕ} (h : Held faces counts spans lens uses) where
  pub held_wires : split lens uses ≡ flat faces
  held_wires = rw (h.lens_are, h.uses_are) (split_flat (flat faces))

  pub held_parts : split spans uses ≡ map flat faces
  held_parts = rw (h.spans_are, h.uses_are, ← flat_uses faces, ← map-map length flat faces) (split_flat (map flat faces))
