-- The storage of a pattern without fault, with the halves of an edge after its edges.
use Prim.Native.Nat.{◌+◌, ◌<◌, ◌≤◌, ℕ}
use mathlib.Core.List.{List, [], ◌∷◌, map}
use mathlib.Core.Path.{◌∙◌, ◌≡◌, ap, sym}
use native.Mathlib.Omega.{arith}
use lib.ListN.{get_or, length, length-set, length-take, set, take}
use lib.Seq.{get_or-set_other, get_or-set_same, get_or-take, set-get_or, sets}
use Rattle.cut_edge.specs.Cutting.{cut_stored}
use Rattle.cut_edge_wires.proofs.Halves.{against, along, turned_small}
use Rattle.cut_edge_wires.specs.Halves.{Halved}
use Rattle.edge.proofs.Laws.{no_edge}
use Rattle.edge.specs.Edges.{back_number, front_number}
use Rattle.edge.specs.Uses.{edge_number, front_of, turned}
use Rattle.edge.specs.declared.Edge.{Edge}
use Rattle.lists.proofs.Flat.{get_d_any}
use Rattle.lists.specs.Lists.{flat}
use Rattle.pattern.specs.Contents.{Pattern, content, zero_edge}
use Rattle.shell_edits.specs.Edits.{edge_at}
use Rattle.shell_wires.proofs.Facts.{Fine, front_point, front_taken, stored_edited}
use Rattle.wire.specs.Named.{Named}

-- a list with two elements stored after the first a
module _ (xs : List ℕ) (a x y : ℕ) where
  abbrev pub extended : List ℕ
  extended = set (set xs a x) (a + 1) y

  extended_long : length extended ≡ length xs
  extended_long = length-set (set xs a x) (a + 1) y ∙ length-set xs a x

  extended_kept : (k : ℕ) → k < a → get_or extended k 0 ≡ get_or xs k 0
  extended_kept k h = get_or-set_other (set xs a x) (a + 1) k y 0 (λ e. omega arith) ∙ get_or-set_other xs a k x 0 (λ e. omega arith)

  module _ (h : a + 1 < length xs) where
    extended_first : get_or extended a 0 ≡ x
    extended_first = get_or-set_other (set xs a x) (a + 1) a y 0 (λ e. omega arith) ∙ get_or-set_same xs a x 0 (omega arith)

    extended_second : get_or extended (a + 1) 0 ≡ y
    extended_second = get_or-set_same (set xs a x) (a + 1) y 0 (omega (arith, length-set xs a x))

front_extended : (fronts backs : List ℕ) (a x y z w u : ℕ) → edge_number u < a → front_of (extended fronts a x y) (extended backs a z w) u ≡ front_of fronts backs u
unfolding front_of
front_extended fronts backs a x y z w u h = rw (extended_kept fronts a x y (edge_number u) h, extended_kept backs a z w (edge_number u) h)

-- columns of ends with those of the halves of edge e after the first a, cut at v
module _ (fronts backs : List ℕ) (a e v : ℕ) (here : e < a) (room : a + 2 ≤ 1024) (long : length fronts ≡ 1024) (alike : length backs ≡ 1024) where
  abbrev new_fronts : List ℕ
  new_fronts = extended fronts a (get_or fronts e 0) v

  abbrev new_backs : List ℕ
  new_backs = extended backs a v (get_or backs e 0)

  new_long : length new_fronts ≡ 1024
  new_long = extended_long fronts a (get_or fronts e 0) v ∙ long

  new_alike : length new_backs ≡ length new_fronts
  new_alike = extended_long backs a v (get_or backs e 0) ∙ alike ∙ sym new_long

  pub new_halved : v < 2048 → get_or fronts e 0 < 2048 → get_or backs e 0 < 2048 → Halved new_fronts new_backs e a
  new_halved point front back =
      let x = get_or fronts e 0 in
      let z = get_or backs e 0 in
      let f = extended_first fronts a x v (omega (arith, long)) in
      let g = extended_second backs a v z (omega (arith, alike)) in
      record {
        alike = new_alike;
        long = omega (arith, new_long);
        small = omega (arith, new_long);
        front = f ∙ sym (extended_kept fronts a x v e here);
        back = g ∙ sym (extended_kept backs a v z e here);
        points = (
          omega (arith, f, front),
          omega (arith, extended_second fronts a x v (omega (arith, long)), point),
          omega (arith, extended_first backs a v z (omega (arith, alike)), point),
          omega (arith, g, back),
        );
      }

  pub new_named : (us : List ℕ) → Named (take a fronts) (take a backs) us → Named new_fronts new_backs us
  new_named us named =
      let inside : (k : ℕ) → k < length us → edge_number (get_or us k 0) < a = λ k h. omega (arith, named.edge k h, length-take a fronts) in
      record {
        alike = new_alike;
        edge = λ k h. omega (arith, inside k h, new_long);
        point = λ k h.
            rw (front_extended fronts backs a (get_or fronts e 0) v v (get_or backs e 0) (get_or us k 0) (inside k h), ← front_taken fronts backs a (get_or us k 0) (inside k h))
            (named.point k h);
      }

-- edge e of a pattern without fault
module _ (p : Pattern) (s : Fine p) (e : ℕ) (here : e < get_or p.counts 1 0) where
  -- the edge as the code reads it
  pub edge_at_lem : edge_at (content p) e ≡ get_or p.edges e no_edge
  edge_at_lem = get_or-take (get_or p.counts 1 0) p.edges e zero_edge here ∙ get_d_any p.edges e zero_edge no_edge (omega (arith, s.limits.edges, s.full.edges))

  abbrev fronts : List ℕ
  fronts = map front_number p.edges

  abbrev backs : List ℕ
  backs = map back_number p.edges

  small : e < 32768
  small = omega (arith, s.limits.edges)

  pub front_low : get_or fronts e 0 < 2048
  front_low =
      let n : edge_number e ≡ e = omega (arith, small) in
      omega (arith, along fronts backs e small, front_point p s e (omega (arith, n)), s.limits.points)

  pub back_low : get_or backs e 0 < 2048
  back_low =
      let n : edge_number (turned e) ≡ e = rw (turned_small e small) (omega (arith, small)) in
      omega (arith, against fronts backs e small, front_point p s (turned e) (omega (arith, n)), s.limits.points)

-- the pattern after the cut, as the code makes it
abbrev pub cut_tables : Pattern → Edge → Edge → List (List ℕ) → Pattern
cut_tables p h₁ h₂ ws = record {
  counts = set (set p.counts 1 (get_or p.counts 1 0 + 2)) 2 (length (flat ws));
  points = p.points;
  edges = sets p.edges (get_or p.counts 1 0) (h₁ ∷ h₂ ∷ []);
  uses = sets p.uses 0 (flat ws);
  wires = sets p.wires 0 (map length ws);
  faces = p.faces;
  shells = p.shells;
  listings = p.listings;
}

pub cut_stored_lem : (p : Pattern) (s : Fine p) (h₁ h₂ : Edge) (ws : List (List ℕ)) → length (map length ws) ≡ get_or p.counts 3 0
    → cut_tables p h₁ h₂ ws ≡ cut_stored p (h₁ ∷ h₂ ∷ []) ws
cut_stored_lem p s h₁ h₂ ws long =
    let a = get_or p.counts 1 0 in
    let two = set (set p.counts 1 (a + 2)) 2 (length (flat ws)) in
    let third : get_or two 3 0 ≡ get_or p.counts 3 0 =
    get_or-set_other (set p.counts 1 (a + 2)) 2 3 (length (flat ws)) 0 (λ e. omega arith) ∙ get_or-set_other p.counts 1 3 (a + 2) 0 (λ e. omega arith) in
    let kept : set two 3 (length (map length ws)) ≡ two = ap (set two 3) (long ∙ sym third) ∙ set-get_or two 3 0 in
    sym (stored_edited p s (h₁ ∷ h₂ ∷ []) (flat ws) (map length ws) ∙ rw kept)
