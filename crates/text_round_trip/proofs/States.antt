-- The first records of each kind of a pattern, as their lines make them, and one record more.
use Prim.Native.Nat.{◌<◌, ◌≤◌, suc, ℕ}
use mathlib.Core.List.{List, [], ◌++◌, ◌∷◌, append-nil, map, map-append}
use mathlib.Core.Path.{◌∙◌, ◌≡◌, ap, refl, sym}
use native.Mathlib.Omega.{arith}
use lib.ListN.{get_or-map, drop, get_or, length, length-drop, length-map, take}
use lib.Seq.{length-take-le, take-suc}
use Rattle.face.specs.Faces.{wire_count}
use Rattle.draft_parts.specs.Parts.{joined, nothing}
use Rattle.lists.proofs.Laws.{flat_append, length_split}
use Rattle.lists.proofs.Parts.{flat_one}
use Rattle.lists.specs.Lists.{flat, split, sum}
use Rattle.pattern.specs.Checks.{outlines}
use Rattle.pattern.specs.Contents.{Content, zero_edge, zero_face}
use Rattle.text_round_trip.proofs.Adds.{edge_part, face_part, point_part, shell_part}

-- ---- parts of a list

module _ {ℓ} {A : Type ℓ} where
  -- the lists up to number k, and the next
  flat_more : (xss : List (List A)) (k : ℕ) → k < length xss → flat (take (suc k) xss) ≡ flat (take k xss) ++ get_or xss k []
  flat_more xss k h = rw (take-suc xss k [] h, flat_append (take k xss) (get_or xss k [] ∷ []), flat_one (get_or xss k []))

  -- the parts have the lengths that they are cut by
  pub split_lengths : (ns : List ℕ) (xs : List A) → sum ns ≤ length xs → map length (split ns xs) ≡ ns
  unfolding split sum
  split_lengths [] xs h = refl
  split_lengths (n ∷ ns) xs h = rw (length-take-le n xs (omega arith), split_lengths ns (drop n xs) (omega (arith, length-drop n xs)))

  pub split_length : (ns : List ℕ) (xs : List A) → sum ns ≤ length xs → (k : ℕ) → length (get_or (split ns xs) k []) ≡ get_or ns k 0
  split_length ns xs h k = sym (get_or-map length (split ns xs) k []) ∙ ap (λ (r : List ℕ). get_or r k 0) (split_lengths ns xs h)

-- ---- the parts

-- the listings of each shell
abbrev pub lists : Content → List (List ℕ)
lists c = split c.shells c.listings

-- a points, b edges, f faces, s shells
abbrev pub partly : Content → ℕ → ℕ → ℕ → ℕ → Content
partly c a b f s = record {
  points = take a c.points;
  edges = take b c.edges;
  uses = flat (flat (take f (outlines c)));
  wires = map length (flat (take f (outlines c)));
  faces = take f c.faces;
  shells = take s c.shells;
  listings = flat (take s (lists c));
}

pub partly_none : (c : Content) → partly c 0 0 0 0 ≡ nothing
unfolding flat
partly_none c = refl

-- one record more
module _ (c : Content) (a b f s : ℕ) where
  abbrev p : Content
  p = partly c a b f s

  pub point_more : a < length c.points → joined p (point_part (get_or c.points a 0)) ≡ partly c (suc a) b f s
  point_more h = λ i. record {
    points = sym (take-suc c.points a 0 h) i;
    edges = append-nil p.edges i;
    uses = append-nil p.uses i;
    wires = append-nil p.wires i;
    faces = append-nil p.faces i;
    shells = append-nil p.shells i;
    listings = append-nil p.listings i;
  }

  pub edge_more : b < length c.edges → joined p (edge_part (get_or c.edges b zero_edge)) ≡ partly c a (suc b) f s
  edge_more h = λ i. record {
    points = append-nil p.points i;
    edges = sym (take-suc c.edges b zero_edge h) i;
    uses = append-nil p.uses i;
    wires = append-nil p.wires i;
    faces = append-nil p.faces i;
    shells = append-nil p.shells i;
    listings = append-nil p.listings i;
  }

  pub face_more : f < length c.faces → length (get_or (outlines c) f []) ≡ (get_or c.faces f zero_face).wires
      → joined p (face_part (get_or c.faces f zero_face).surface (get_or (outlines c) f [])) ≡ partly c a b (suc f) s
  face_more h e =
      let wires = get_or (outlines c) f [] in
      let inside : f < length (outlines c) = omega (arith, length_split (map wire_count c.faces) (split c.wires c.uses), length-map c.faces wire_count) in
      let more = flat_more (outlines c) f inside in
      λ i. record {
        points = append-nil p.points i;
        edges = append-nil p.edges i;
        uses = sym (ap flat more ∙ flat_append (flat (take f (outlines c))) wires) i;
        wires = sym (ap (map length) more ∙ map-append length (flat (take f (outlines c))) wires) i;
        faces = (ap (λ (n : ℕ). p.faces ++ (record { wires = n; surface = (get_or c.faces f zero_face).surface } ∷ [])) e ∙ sym (take-suc c.faces f zero_face h)) i;
        shells = append-nil p.shells i;
        listings = append-nil p.listings i;
      }

  pub shell_more : s < length c.shells → length (get_or (lists c) s []) ≡ get_or c.shells s 0 → joined p (shell_part (get_or (lists c) s [])) ≡ partly c a b f (suc s)
  shell_more h e = λ i. record {
    points = append-nil p.points i;
    edges = append-nil p.edges i;
    uses = append-nil p.uses i;
    wires = append-nil p.wires i;
    faces = append-nil p.faces i;
    shells = (ap (λ (n : ℕ). p.shells ++ (n ∷ [])) e ∙ sym (take-suc c.shells s 0 h)) i;
    listings = sym (flat_more (lists c) s (omega (arith, length_split c.shells c.listings))) i;
  }
