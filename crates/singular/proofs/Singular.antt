-- The trees stand for the groups of the edges' ends, and the points where several roots are met are the singular ones.
use Prim.Native.Nat.{◌*◌, ◌<◌, ℕ}
use mathlib.Core.Bool.{Bool, false, true}
use mathlib.Core.List.{List, [], ◌∷◌, map}
use mathlib.Core.Path.{◌∙◌, ◌≡◌, sym}
use native.Mathlib.Omega.{arith}
use lib.Dec.{eqb}
use lib.ListN.{drop, get_or, get_or-replicate, length, replicate, take}
use Rattle.edge.specs.Uses.{back_of, front_of}
use Rattle.groups.proofs.Alike.{of_flat_map}
use Rattle.groups.proofs.Climbing.{root_below}
use Rattle.groups.proofs.Laws.{grouped_all, grouped_start}
use Rattle.groups.proofs.Meaning.{of_each}
use Rattle.groups.proofs.Rooting.{one_root_is}
use Rattle.groups.specs.Forest.{Grouped, Trees, joined_all, started, trees}
use Rattle.groups.specs.Groups.{Inside}
use Rattle.lists.proofs.Parts.{all_flat, all_place, flat_split, only_none}
use Rattle.lists.proofs.Count.{All, all_append, all_each, all_map, all_weaker}
use Rattle.lists.proofs.Split.{get_d_split}
use Rattle.lists.specs.Lists.{flat, numbers, only, pick, split, sum}
use Rattle.shell.specs.Singular.{corners, ends_at, ends_of, first_end, is_singular, last_end, singular_of}
use Rattle.singular.proofs.Ends.{Member, Named, below_part, corners_below, first_below, last_below}
use Rattle.singular.proofs.Lists.{all_numbers, only_alike}
use Rattle.singular.proofs.Noting.{Rooted, noted_none, noted_uses}
use Rattle.singular.specs.Ends.{Cornered, Wired, end_parents}
use Rattle.singular.specs.Noted.{Noteable, marked, none_noted, uses_noted}

module _ (uses lens : List ℕ) (edges : ℕ) (w : Wired uses lens edges) where
  abbrev wires : List (List ℕ)
  wires = split lens uses

  all_named : All (Named edges) uses
  all_named = all_each (Named edges) 0 uses w.edge

  -- the links of all wires are between members
  wires_below : Inside (2 * edges) (flat (map corners wires))
  wires_below l m =
      let r = of_flat_map corners wires m in
      of_each (λ (us : List ℕ). Inside (2 * edges) (corners us)) [] wires
      (λ k h. rw (get_d_split lens uses k) (corners_below edges (take (get_or lens k 0) (drop (sum (take k lens)) uses)) (below_part edges uses (sum (take k lens)) (get_or lens k 0) w.edge)))
      r.0 r.1 l r.2

  pub ends_joined : {ps ss ps' : List ℕ}
      → (ps ≡ (started (2 * edges) (replicate 2048 0) (replicate 2048 0)).parents) × (ss ≡ (started (2 * edges) (replicate 2048 0) (replicate 2048 0)).sizes)
      → ps' ≡ (joined_all (trees ps ss) (flat (map corners (split lens uses)))).parents → ps' ≡ end_parents edges lens uses
  ends_joined s j = j ∙ rw (s.0, s.1)

  -- the trees stand for the groups
  abbrev forest : Trees
  forest = joined_all (started (2 * edges) (replicate 2048 0) (replicate 2048 0)) (flat (map corners wires))

  pub ends_grouped : Grouped (2 * edges) (flat (map corners wires)) forest.parents forest.sizes
  ends_grouped =
      grouped_all (2 * edges) [] (flat (map corners wires)) (started (2 * edges) (replicate 2048 0) (replicate 2048 0))
      (grouped_start (2 * edges) (replicate 2048 0) (replicate 2048 0) (omega (arith, w.few_edges)))
      wires_below

-- the members at a point
ends_of_below : (front back : ℕ → ℕ) (edges q u : ℕ) → Named edges u → All (Member edges) (ends_of front back q u)
ends_of_below front back edges q u h =
    all_append (Member edges) (pick (eqb (front u) q) (first_end u ∷ []) []) (pick (eqb (back u) q) (last_end u ∷ []) [])
    (one (eqb (front u) q) (first_end u) (first_below edges u h))
    (one (eqb (back u) q) (last_end u) (last_below edges u h))
  where
    one : (b : Bool) (m : ℕ) → Member edges m → All (Member edges) (pick b (m ∷ []) [])
    one true m h = (h, tt)
    one false m h = tt

pub ends_at_below : (front back : ℕ → ℕ) (edges q : ℕ) (us : List ℕ) → All (Named edges) us → All (Member edges) (ends_at front back q us)
unfolding ends_at
ends_at_below front back edges q us h =
    all_flat (Member edges) (map (ends_of front back q) us)
    (all_map (Named edges) (All (Member edges)) (ends_of front back q) (ends_of_below front back edges q) us h)

module _ (uses lens fronts backs : List ℕ) (points : ℕ) (out : List ℕ) (h : Cornered uses lens fronts backs points out) where
  abbrev edges : ℕ
  edges = length fronts

  abbrev ps : List ℕ
  ps = end_parents edges lens uses

  abbrev grouped : Grouped (2 * edges) (flat (map corners (split lens uses))) ps (forest uses lens edges h.wired).sizes
  grouped = ends_grouped uses lens edges h.wired

  pub noteable : (k : ℕ) → k < length uses → Noteable fronts backs (2 * length fronts) (get_or uses k 0)
  noteable k l = record {
    edge = h.wired.edge k l;
    other = omega (arith, h.wired.edge k l, h.alike);
    front = omega (arith, h.front k l, h.few_points);
    back = omega (arith, h.back k l, h.few_points);
    first = first_below edges (get_or uses k 0) (h.wired.edge k l);
    last = last_below edges (get_or uses k 0) (h.wired.edge k l);
  }

  all_rooted : All (Rooted ps) uses
  all_rooted =
      all_weaker (Named edges) (Rooted ps)
      (λ u l. (
        omega (arith, root_below (2 * edges) ps _ grouped.forest (first_end u) (first_below edges u l), h.wired.few_edges),
        omega (arith, root_below (2 * edges) ps _ grouped.forest (last_end u) (last_below edges u l), h.wired.few_edges),
      ))
      uses (all_named uses lens edges h.wired)

  -- several roots are met exactly at the singular points
  marked_singular : (q : ℕ) → q < points
      → marked (uses_noted fronts backs ps none_noted uses).several q ≡ is_singular (front_of fronts backs) (back_of fronts backs) edges (split lens uses) q
  marked_singular q l =
      let at = ends_at (front_of fronts backs) (back_of fronts backs) q uses in
      let all = ends_at_below (front_of fronts backs) (back_of fronts backs) edges q uses (all_named uses lens edges h.wired) in
      (noted_uses fronts backs ps q uses [] none_noted all_rooted (noted_none ps q (omega (arith, h.few_points)))).says
      ∙ rw (one_root_is (2 * edges) _ ps _ grouped at (all_place (Member edges) 0 at all), flat_split lens uses h.wired.summed)

  pub singular_marked : {parents : List ℕ} {several : List Bool} → parents ≡ ps → several ≡ (uses_noted fronts backs parents none_noted uses).several
      → only (marked several) (numbers points) ≡ singular_of (front_of fronts backs) (back_of fronts backs) edges points (split lens uses)
  unfolding singular_of
  singular_marked o e = rw (e, o) (only_alike (marked (uses_noted fronts backs ps none_noted uses).several) (is_singular (front_of fronts backs) (back_of fronts backs) edges (split lens uses)) points marked_singular)

  -- without a mark none is singular
  pub singular_none : {parents : List ℕ} {several : List Bool} → parents ≡ ps → several ≡ (uses_noted fronts backs parents none_noted uses).several → several ≡ replicate 2048 false
      → singular_of (front_of fronts backs) (back_of fronts backs) edges points (split lens uses) ≡ []
  singular_none o e z =
      sym (singular_marked o e)
      ∙ rw z
      (only_none (marked (replicate 2048 false)) (numbers points)
      (all_numbers (λ (p : ℕ). marked (replicate 2048 false) p ≡ false) points (λ p l. get_or-replicate 2048 p false false (omega (arith, h.few_points)))))
