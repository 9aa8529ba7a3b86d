-- The links of a wire, and the loop that joins them.
use Prim.Native.Nat.{◌*◌, ◌+◌, ◌-◌, ◌<◌, ◌≤◌, ℕ}
use mathlib.Core.Bool.{false, true}
use mathlib.Core.List.{List, [], ◌++◌, ◌∷◌, map}
use mathlib.Core.Logic.{⊎_elim}
use mathlib.Core.Path.{◌∙◌, ◌≡◌, sym}
use native.Mathlib.Numerals.{add-one}
use native.Mathlib.Omega.{arith}
use lib.Dec.{leb}
use lib.ListN.{get_or-append, drop, get_or, length, length-drop, length-map, length-take, take}
use lib.Seq.{get_or-append_seam, get_or-drop, get_or-take}
use Rattle.edge.specs.Uses.{edge_number}
use Rattle.groups.proofs.All.{Joins, Pairs, column_at, joins_end, joins_next}
use Rattle.groups.proofs.Laws.{inside_links}
use Rattle.groups.proofs.Meaning.{of_each}
use Rattle.groups.specs.Forest.{joined, joined_all, trees}
use Rattle.groups.specs.Groups.{Inside}
use Rattle.lists.proofs.Parts.{all_place}
use Rattle.lists.proofs.Count.{All, all_append, all_each, all_map}
use Rattle.lists.proofs.Laws.{cases}
use Rattle.lists.specs.Lists.{rotated}
use Rattle.shell.proofs.Shown.{length_rotated}
use Rattle.shell.specs.Singular.{corners, first_end, last_end}
use Rattle.singular.specs.Ends.{next_ends}
use Rattle.edge.specs.Below.{EdgesBelow}

-- the ends of the edges below n are the members below 2n
pub first_below : (edges u : ℕ) → edge_number u < edges → first_end u < 2 * edges
first_below edges u h =
    ⊎_elim (λ (e : leb 32768 u ≡ true). rw e (omega arith)) (λ (e : leb 32768 u ≡ false). rw e (omega arith)) (cases (leb 32768 u))

pub last_below : (edges u : ℕ) → edge_number u < edges → last_end u < 2 * edges
last_below edges u h =
    ⊎_elim (λ (e : leb 32768 u ≡ true). rw e (omega arith)) (λ (e : leb 32768 u ≡ false). rw e (omega arith)) (cases (leb 32768 u))

-- ---- the next use on a wire
pub next_inner : (us : List ℕ) (i : ℕ) → i < length us - 1 → get_or us (i + 1) 0 ≡ get_or (rotated us) i 0
next_inner [] i h = absurd (omega arith)
next_inner (u ∷ us) i h = rw add-one (sym (get_or-append us (u ∷ []) 0 i (omega arith)))

pub next_last : (us : List ℕ) (i : ℕ) → i < length us → length us - 1 ≤ i → get_or us 0 0 ≡ get_or (rotated us) i 0
next_last [] i h l = absurd (omega arith)
next_last (u ∷ us) i h l = let e : i ≡ length us = omega arith in rw e (sym (get_or-append_seam us u [] 0))

pub next_long : (us : List ℕ) → length (next_ends us) ≡ length us
next_long us = length-map (rotated us) first_end ∙ length_rotated us

-- ---- all ends are members
module _ (edges : ℕ) where
  abbrev pub Named : ℕ → Type 0
  Named u = edge_number u < edges

  abbrev pub Member : ℕ → Type 0
  Member m = m < 2 * edges

  pub all_lasts : (us : List ℕ) → All Named us → All Member (map last_end us)
  all_lasts us h = all_map Named Member last_end (last_below edges) us h

  pub all_nexts : (us : List ℕ) → All Named us → All Member (next_ends us)
  all_nexts [] h = tt
  all_nexts (u ∷ us) h = all_map Named Member first_end (first_below edges) (us ++ u ∷ []) (all_append Named us (u ∷ []) h.1 (h.0, tt))

  -- the links of a wire are between members
  pub corner_pairs : (us : List ℕ) → EdgesBelow edges us → Pairs (2 * edges) (map last_end us) (next_ends us)
  corner_pairs us h =
      let named = all_each Named 0 us h in
      let long : length (next_ends us) ≡ length (map last_end us) = next_long us ∙ sym (length-map us last_end) in
      (long, λ k l. (all_place Member 0 (map last_end us) (all_lasts us named) k l, all_place Member 0 (next_ends us) (all_nexts us named) k (omega (arith, long))))

  pub corners_below : (us : List ℕ) → EdgesBelow edges us → Inside (2 * edges) (corners us)
  unfolding corners
  corners_below us h =
      let p = corner_pairs us h in
      inside_links (2 * edges) (map last_end us) (next_ends us)
      (of_each Member 0 (map last_end us) (λ k l. (p.1 k l).0))
      (of_each Member 0 (next_ends us) (λ k l. (p.1 k (omega (arith, p.0))).1))

  -- the two ends of a corner are members
  pub corner_ends : (us : List ℕ) → EdgesBelow edges us → (i : ℕ) → i < length us → {x y v w : ℕ}
      → v ≡ last_end (get_or us i 0) → x ≡ v → w ≡ first_end (get_or (rotated us) i 0) → y ≡ w → Member x × Member y
  corner_ends us b i h {x} {y} a c d e =
      let p = (corner_pairs us b).1 i (omega (arith, length-map us last_end)) in
      (omega (arith, p.0, column_at last_end us i h, a, c), omega (arith, p.1, column_at first_end (rotated us) i (omega (arith, length_rotated us)), d, e))

  -- ---- the loop over the uses of a wire: i are joined with the next
  abbrev pub Cornering : List ℕ → List ℕ → List ℕ → List ℕ → List ℕ → ℕ → Type 0
  Cornering us ps₀ ss₀ ps ss i = Joins (2 * edges) (map last_end us) (next_ends us) ps₀ ss₀ ps ss i

  module _ (us ps₀ ss₀ ps ss : List ℕ) (i : ℕ) (b : EdgesBelow edges us) (s : Cornering us ps₀ ss₀ ps ss i) where
    pub cornering_next : i < length us → {x y v w : ℕ} → v ≡ last_end (get_or us i 0) → x ≡ v → w ≡ first_end (get_or (rotated us) i 0) → y ≡ w
        → {ps' ss' : List ℕ} → (ps' ≡ (joined ps ss x y).parents) × (ss' ≡ (joined ps ss x y).sizes)
        → Cornering us ps₀ ss₀ ps' ss' (i + 1)
    cornering_next h {x} {y} a c d e {ps'} {ss'} o =
        let at_last : x ≡ get_or (map last_end us) i 0 = c ∙ a ∙ sym (column_at last_end us i h) in
        let at_next : y ≡ get_or (next_ends us) i 0 = e ∙ d ∙ sym (column_at first_end (rotated us) i (omega (arith, length_rotated us))) in
        joins_next (2 * edges) (map last_end us) (next_ends us) ps₀ ss₀ ps ss i (corner_pairs us b) s (omega (arith, length-map us last_end)) (rw (at_last, at_next) at o)

    pub cornering_all : length us ≤ i → (ps ≡ (joined_all (trees ps₀ ss₀) (corners us)).parents) × (ss ≡ (joined_all (trees ps₀ ss₀) (corners us)).sizes)
    unfolding corners
    cornering_all h = joins_end (2 * edges) (map last_end us) (next_ends us) ps₀ ss₀ ps ss i (corner_pairs us b) s (omega (arith, length-map us last_end))

-- the part of a list
pub below_part : (edges : ℕ) (us : List ℕ) (at m : ℕ) → EdgesBelow edges us → EdgesBelow edges (take m (drop at us))
below_part edges us at m b k h =
    let l = length-take m (drop at us) in
    let d = length-drop at us in
    rw (get_or-take m (drop at us) k 0 (omega (arith, l)), get_or-drop at us k 0) (b (at + k) (omega (arith, l, d)))
