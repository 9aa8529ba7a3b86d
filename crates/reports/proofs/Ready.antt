-- What the leaves ask of a shell's columns holds of every shell of a sound pattern.
use Prim.Native.Nat.{◌<◌, ◌≤◌, ℕ}
use mathlib.Core.List.{List, [], ◌∷◌, map}
use mathlib.Core.Path.{◌∙◌, ◌≡◌, refl, sym}
use native.Mathlib.Omega.{arith}
use lib.Dec.{leb}
use lib.ListN.{get_or, length, length-map}
use Rattle.columns.proofs.Shells.{content_fine, part_fine, part_is, parts_are, shell_named, shows}
use Rattle.columns.specs.Columns.{columns_in}
use Rattle.columns.specs.Sound.{Sound}
use Rattle.edge.specs.Edges.{back_number, front_number}
use Rattle.edge.specs.Uses.{back_of, edge_number, front_of}
use Rattle.extract.specs.Listings.{AllTally, AllWalk}
use Rattle.face.specs.Faces.{face_rule}
use Rattle.listing.proofs.Laws.{Placed, flat_flat, shown_keeps}
use Rattle.listing.specs.Parts.{part_at, parts_of}
use Rattle.lists.proofs.Parts.{all_place}
use Rattle.lists.proofs.Count.{All, all_append, all_at, all_map, all_weaker}
use Rattle.lists.specs.Lists.{flat}
use Rattle.pattern.proofs.Counts.{edges_counted, points_counted}
use Rattle.pattern.proofs.Passed.{content_passed}
use Rattle.pattern.specs.Checks.{outlines}
use Rattle.pattern.specs.Contents.{Pattern, content}
use Rattle.shell.proofs.Shown.{faces_sound}
use Rattle.shell.specs.Shells.{face_number, listings_of, shell_uses, shell_wires, shown_wire, shown_wires}
use Rattle.wire.proofs.Laws.{Sound as Sound·wire}
use Rattle.wire.specs.Named.{Named}
use Rattle.edge.specs.Below.{EdgesBelow}

-- ---- a face without fault has no wire without uses
abbrev pub Some : List ℕ → Type 0
Some us = 0 < length us

faces_some : (fronts backs : List ℕ) (faces : List (List (List ℕ))) → face_rule fronts backs 0 faces ≡ [] → All (All Some) faces
faces_some fronts backs faces e =
    all_weaker (All (Sound·wire fronts backs)) (All Some) (all_weaker (Sound·wire fronts backs) Some (λ us s. s.used)) faces (faces_sound fronts backs 0 faces e)

shown_some : (l : ℕ) (us : List ℕ) → Some us → Some (shown_wire l us)
shown_some l us h = omega (arith, shown_keeps (leb 32768 l) us)

module _ (p : Pattern) (s : Sound p) where
  abbrev fs : List ℕ
  fs = map front_number (content p).edges

  abbrev bs : List ℕ
  bs = map back_number (content p).edges

  -- the wires that a listing shows
  pub listing_some : (l : ℕ) → All Some (shown_wires (outlines (content p)) l)
  listing_some l =
      all_map Some Some (shown_wire l) (shown_some l) (get_or (outlines (content p)) (face_number l) [])
      (all_at (All Some) [] tt (outlines (content p))
      (faces_some fs bs (outlines (content p)) (content_passed (content p) (content_fine p s)).rule) (face_number l))

  edges_few : length (content p).edges ≤ 1024
  edges_few = omega (arith, edges_counted p s.limits s.full, s.limits.edges)

  points_few : length (content p).points ≤ 2048
  points_few = omega (arith, points_counted p s.limits s.full, s.limits.points)

  -- a part of uses that are placed, place by place
  module _ (us : List ℕ) (h : All (Placed (content p)) us) where
    pub use_edge : (k : ℕ) → k < length us → edge_number (get_or us k 0) < length (content p).edges
    use_edge k l = (all_place (Placed (content p)) 0 us h k l).0.1

    pub use_front_lem : (k : ℕ) → k < length us → front_of fs bs (get_or us k 0) < length (content p).points
    use_front_lem k l = (all_place (Placed (content p)) 0 us h k l).1

    pub use_back_lem : (k : ℕ) → k < length us → back_of fs bs (get_or us k 0) < length (content p).points
    use_back_lem k l = (all_place (Placed (content p)) 0 us h k l).2

    begins : Named fs bs us
    begins = record {
      alike = length-map (content p).edges back_number ∙ sym (length-map (content p).edges front_number);
      edge = λ k l. omega (arith, use_edge k l, length-map (content p).edges front_number);
      point = λ k l. omega (arith, use_front_lem k l, points_few);
    }

    ends : Named bs fs us
    ends = record {
      alike = length-map (content p).edges front_number ∙ sym (length-map (content p).edges back_number);
      edge = λ k l. omega (arith, use_edge k l, length-map (content p).edges back_number);
      point = λ k l. omega (arith, use_back_lem k l, points_few);
    }

  module _ (l : ℕ) (face : face_number l < length (content p).faces) where
    placed : All (Placed (content p)) (part_at p.uses (columns_in p).turned (columns_in p).starts l)
    placed = rw (part_is p s l face) (part_fine p s l face)

    tallies : EdgesBelow 1024 (part_at p.uses (columns_in p).turned (columns_in p).starts l)
    tallies k h = omega (arith, use_edge (part_at p.uses (columns_in p).turned (columns_in p).starts l) placed k h, edges_few)

  -- the listings of shell n
  module _ (n : ℕ) where
    abbrev ls : List ℕ
    ls = listings_of (content p) n

    named : (k : ℕ) → k < length (listings_of (content p) n) → face_number (get_or (listings_of (content p) n) k 0) < length (content p).faces
    named k h = all_place (λ (l : ℕ). face_number l < length (content p).faces) 0 (listings_of (content p) n) (shell_named p s n) k h

    pub all_tally : AllTally p.uses (columns_in p).turned (columns_in p).starts (listings_of (content p) n)
    all_tally k h = let l = get_or (listings_of (content p) n) k 0 in record { shows = shows p s l (named k h); edges = tallies l (named k h) }

    pub all_walk : AllWalk p.uses (columns_in p).turned (columns_in p).starts fs bs (listings_of (content p) n)
    all_walk k h =
        let l = get_or (listings_of (content p) n) k 0 in
        let part = part_at p.uses (columns_in p).turned (columns_in p).starts l in
        record { shows = shows p s l (named k h); begins = begins part (placed l (named k h)); ends = ends part (placed l (named k h)) }

    pub uses_are : parts_of p.uses (columns_in p).turned (columns_in p).starts (listings_of (content p) n) ≡ shell_uses (content p) n
    unfolding shell_wires
    uses_are =
        parts_are p s (listings_of (content p) n) (shell_named p s n)
        ∙ sym (flat_flat (shown_wires (outlines (content p))) (λ (l : ℕ). flat (shown_wires (outlines (content p)) l)) (λ l. refl) (listings_of (content p) n))

  -- the uses of several listings
  pub listings_placed : (ls : List ℕ) → All (λ (l : ℕ). face_number l < length (content p).faces) ls
      → All (Placed (content p)) (flat (map (λ (l : ℕ). flat (shown_wires (outlines (content p)) l)) ls))
  unfolding flat
  listings_placed [] h = tt
  listings_placed (l ∷ ls) h =
      all_append (Placed (content p)) (flat (shown_wires (outlines (content p)) l)) (flat (map (λ (m : ℕ). flat (shown_wires (outlines (content p)) m)) ls))
      (part_fine p s l h.0) (listings_placed ls h.1)

  pub shell_placed : (n : ℕ) → All (Placed (content p)) (shell_uses (content p) n)
  unfolding shell_wires
  shell_placed n =
      rw (flat_flat (shown_wires (outlines (content p))) (λ (l : ℕ). flat (shown_wires (outlines (content p)) l)) (λ l. refl) (listings_of (content p) n))
      (listings_placed (listings_of (content p) n) (shell_named p s n))
