-- How many records the first records have: they pass no limit; all of them are the pattern.
use Prim.Native.Nat.{◌≤◌, ℕ}
use mathlib.Core.List.{List, [], ◌∷◌, map}
use mathlib.Core.Path.{◌∙◌, ◌≡◌, ap, sym}
use native.Mathlib.Omega.{arith}
use lib.ListN.{drop, get_or, length, length-append, length-map, length-take, take, take-append-drop}
use lib.Seq.{length-take-le, take_all}
use borrow.Author.Tests.{le-leb}
use Rattle.errors.specs.Faults.{each}
use Rattle.face.specs.Faces.{wire_count}
use Rattle.lists.proofs.Laws.{flat_append, length_split}
use Rattle.lists.proofs.Parts.{flat_split}
use Rattle.lists.specs.Lists.{flat, split, sum}
use Rattle.pattern.proofs.Counts.{Limited}
use Rattle.pattern.specs.Checks.{count_faults, outlines}
use Rattle.pattern.specs.Contents.{Content, counts_of}
use Rattle.text_round_trip.proofs.States.{lists, partly, split_lengths}
use Rattle.text_round_trip.proofs.Weights.{weight}

-- ---- contents that pass no limit

counts_few : (a b c d e f g : ℕ) → a ≤ 2048 → b ≤ 1024 → c ≤ 4096 → d ≤ 1024 → e ≤ 256 → f ≤ 16 → g ≤ 512
    → count_faults (a ∷ b ∷ c ∷ d ∷ e ∷ f ∷ g ∷ []) ≡ []
unfolding each
counts_few a b c d e f g ha hb hc hd he hf hg =
    rw (le-leb a 2048 ha, le-leb b 1024 hb, le-leb c 4096 hc, le-leb d 1024 hd, le-leb e 256 he, le-leb f 16 hf, le-leb g 512 hg)

pub room_few : (p : Content) → Limited (counts_of p) → count_faults (counts_of p) ≡ []
room_few p r =
    counts_few (length p.points) (length p.edges) (length p.uses) (length p.wires) (length p.faces) (length p.shells) (length p.listings)
    r.points r.edges r.uses r.wires r.faces r.shells r.listings

pub room_weight : (p : Content) → Limited (counts_of p) → weight p ≤ 262144
room_weight p r = omega (arith, r.points, r.edges, r.uses, r.wires, r.faces, r.shells, r.listings)

-- ---- a pattern whose sums are right

module _ {ℓ} {A : Type ℓ} where
  -- a part of the lists has no more than all
  flat_part : (k : ℕ) (xss : List (List A)) → length (flat (take k xss)) ≤ length (flat xss)
  flat_part k xss =
      omega (
        arith,
        ap (λ (r : List (List A)). length (flat r)) (take-append-drop k xss),
        ap length (flat_append (take k xss) (drop k xss)),
        length-append (flat (take k xss)) (flat (drop k xss)),
      )

  flat_parts : (k : ℕ) (xsss : List (List (List A))) → length (flat (flat (take k xsss))) ≤ length (flat (flat xsss))
  flat_parts k xsss =
      let first = flat (take k xsss) in
      let rest = flat (drop k xsss) in
      omega (
        arith,
        ap (λ (r : List (List (List A))). length (flat (flat r))) (take-append-drop k xsss),
        ap (λ (r : List (List A)). length (flat r)) (flat_append (take k xsss) (drop k xsss)),
        ap length (flat_append first rest),
        length-append (flat first) (flat rest),
      )

pub record Summed (c : Content) : Type 0 where
  pub few : Limited (counts_of c)
  pub uses : sum c.wires ≡ length c.uses
  pub wires : sum (map wire_count c.faces) ≡ length c.wires
  pub listings : sum c.shells ≡ length c.listings

module _ (c : Content) (r : Summed c) where
  outlines_flat : flat (outlines c) ≡ split c.wires c.uses
  outlines_flat = flat_split (map wire_count c.faces) (split c.wires c.uses) (r.wires ∙ sym (length_split c.wires c.uses))

  uses_flat : flat (flat (outlines c)) ≡ c.uses
  uses_flat = ap flat outlines_flat ∙ flat_split c.wires c.uses r.uses

  wires_flat : map length (flat (outlines c)) ≡ c.wires
  wires_flat = ap (map length) outlines_flat ∙ split_lengths c.wires c.uses (omega (arith, r.uses))

  listings_flat : flat (lists c) ≡ c.listings
  listings_flat = flat_split c.shells c.listings r.listings

  pub partly_room : (a b f s : ℕ) → Limited (counts_of (partly c a b f s))
  partly_room a b f s = record {
    points = omega (arith, length-take a c.points, r.few.points);
    edges = omega (arith, length-take b c.edges, r.few.edges);
    uses = omega (arith, flat_parts f (outlines c), ap length uses_flat, r.few.uses);
    wires = omega (arith, length-map (flat (take f (outlines c))) length, flat_part f (outlines c), ap length wires_flat, length-map (flat (outlines c)) length, r.few.wires);
    faces = omega (arith, length-take f c.faces, r.few.faces);
    shells = omega (arith, length-take s c.shells, r.few.shells);
    listings = omega (arith, flat_part s (lists c), ap length listings_flat, r.few.listings);
  }

  -- all records
  pub partly_all : partly c (length c.points) (length c.edges) (length c.faces) (length c.shells) ≡ c
  partly_all =
      let o : take (length c.faces) (outlines c) ≡ outlines c = take_all (length c.faces) (outlines c) (omega (arith, length_split (map wire_count c.faces) (split c.wires c.uses), length-map c.faces wire_count)) in
      let l : take (length c.shells) (lists c) ≡ lists c = take_all (length c.shells) (lists c) (omega (arith, length_split c.shells c.listings)) in
      λ i. record {
        points = take_all (length c.points) c.points (omega arith) i;
        edges = take_all (length c.edges) c.edges (omega arith) i;
        uses = (ap (λ (r : List (List (List ℕ))). flat (flat r)) o ∙ uses_flat) i;
        wires = (ap (λ (r : List (List (List ℕ))). map length (flat r)) o ∙ wires_flat) i;
        faces = take_all (length c.faces) c.faces (omega arith) i;
        shells = take_all (length c.shells) c.shells (omega arith) i;
        listings = (ap flat l ∙ listings_flat) i;
      }

-- ---- the number of the next record

module _ (c : Content) (a b f s : ℕ) where
  pub next_point : a ≤ length c.points → get_or (counts_of (partly c a b f s)) 0 0 ≡ a
  next_point h = length-take-le a c.points h

  pub next_edge : b ≤ length c.edges → get_or (counts_of (partly c a b f s)) 1 0 ≡ b
  next_edge h = length-take-le b c.edges h

  pub next_face : f ≤ length c.faces → get_or (counts_of (partly c a b f s)) 4 0 ≡ f
  next_face h = length-take-le f c.faces h

  pub next_shell : s ≤ length c.shells → get_or (counts_of (partly c a b f s)) 5 0 ≡ s
  next_shell h = length-take-le s c.shells h
