-- The loops that join each use's edge and its pair.
use Prim.Native.Nat.{◌+◌, ◌-◌, ◌<◌, ◌≤◌, ℕ}
use mathlib.Core.List.{List, ◌++◌, map, map-append}
use mathlib.Core.Path.{◌∙◌, ◌≡◌, ap, refl, sym}
use native.Mathlib.Numerals.{add-one}
use native.Mathlib.Omega.{arith}
use lib.ListN.{get_or-map, drop, get_or, get_or-replicate, length, length-drop, length-map, length-replicate, length-take, replicate, take}
use lib.Seq.{get_or-drop, get_or-take, length-take-le, take-add, take_all}
use Rattle.components.proofs.Loops.{length_owners, owners_next}
use Rattle.components.proofs.Members.{all_replicate, links_append}
use Rattle.components.specs.Pairs.{Linkable, Within, member_links, owners, use_links}
use Rattle.edge.specs.Uses.{edge_number}
use Rattle.groups.proofs.All.{Joins, Pairs, forest_all, joined_all_long, joined_append, joins_end, joins_next}
use Rattle.groups.proofs.Laws.{inside_links}
use Rattle.groups.proofs.Members.{all_member}
use Rattle.groups.specs.Forest.{Forest, Trees, joined, joined_all, trees}
use Rattle.groups.specs.Groups.{Inside, links}
use Rattle.lists.proofs.Count.{all_each, all_map}
use Rattle.lists.proofs.Split.{Walk, walk_fits, walk_next, walk_start}
use Rattle.lists.specs.Lists.{sum}

-- ---- the uses of one pair
module _ (n : ℕ) (part : List ℕ) (member : ℕ) (w : Within n part) (m : member < n) where
  part_pairs : Pairs n (map edge_number part) (replicate (length part) member)
  part_pairs = (
    length-replicate (length part) member ∙ sym (length-map part edge_number),
    λ k h.
        let l : k < length part = omega (arith, length-map part edge_number) in
        (rw (get_or-map edge_number part k 0) (w k l), rw (get_or-replicate (length part) k member 0 l) m),
  )

  pub part_inside : Inside n (member_links member part)
  part_inside =
      inside_links n (map edge_number part) (replicate (length part) member)
      (all_member (λ (y : ℕ). y < n) (map edge_number part) (all_map (λ (v : ℕ). edge_number v < n) (λ (y : ℕ). y < n) edge_number (λ v o. o) part (all_each (λ (v : ℕ). edge_number v < n) 0 part w)))
      (all_member (λ (y : ℕ). y < n) (replicate (length part) member) (all_replicate (λ (y : ℕ). y < n) (length part) member m))

  module _ {ps₀ ss₀ ps ss : List ℕ} {i : ℕ} (j : Joins n (map edge_number part) (replicate (length part) member) ps₀ ss₀ ps ss i) where
    pub member_next : i < length part → {e : ℕ} → e ≡ edge_number (get_or part i 0) → {ps' ss' : List ℕ} → (ps' ≡ (joined ps ss e member).parents) × (ss' ≡ (joined ps ss e member).sizes)
        → Joins n (map edge_number part) (replicate (length part) member) ps₀ ss₀ ps' ss' (i + 1)
    member_next h e o =
        let a : edge_number (get_or part i 0) ≡ get_or (map edge_number part) i 0 = sym (get_or-map edge_number part i 0) in
        joins_next n (map edge_number part) (replicate (length part) member) ps₀ ss₀ ps ss i part_pairs j (omega (arith, length-map part edge_number))
        (rw (get_or-replicate (length part) i member 0 h) (rw (e ∙ a) at o))

    pub member_all : length part ≤ i → (ps ≡ (joined_all (trees ps₀ ss₀) (member_links member part)).parents) × (ss ≡ (joined_all (trees ps₀ ss₀) (member_links member part)).sizes)
    member_all h = joins_end n (map edge_number part) (replicate (length part) member) ps₀ ss₀ ps ss i part_pairs j (omega (arith, length-map part edge_number))

-- ---- pair by pair: the uses of k pairs are joined, the next pair's begin at place `at`
pub record Linking (edges : ℕ) (spans uses ps₀ ss₀ ps ss : List ℕ) (k at : ℕ) : Type 0 where
  pub walk : Walk spans k at
  pub forest : Forest (edges + length spans) ps ss
  pub parents_long : length ps ≡ length ps₀
  pub sizes_long : length ss ≡ length ss₀
  pub is : trees ps ss ≡ joined_all (trees ps₀ ss₀) (links (map edge_number (take at uses)) (owners edges (take k spans)))

module _ (edges : ℕ) (spans uses : List ℕ) (u : Linkable spans uses edges) where
  abbrev n : ℕ
  n = edges + length spans

  pub linking_start : (ps₀ ss₀ : List ℕ) → Forest (edges + length spans) ps₀ ss₀ → Linking edges spans uses ps₀ ss₀ ps₀ ss₀ 0 0
  unfolding owners joined_all links
  linking_start ps₀ ss₀ f = record {
    walk = walk_start spans;
    forest = f;
    parents_long = refl;
    sizes_long = refl;
    is = refl;
  }

  module _ {ps₀ ss₀ ps ss : List ℕ} {k at : ℕ} (s : Linking edges spans uses ps₀ ss₀ ps ss k at) where
    module _ {m : ℕ} (h : k < length spans) (is : m ≡ get_or spans k 0) where
      pub linking_fits : at + m ≤ length uses
      linking_fits = omega (arith, walk_fits spans k at m s.walk h is, u.summed)

      -- the uses of the pair, as the code takes them
      abbrev part : List ℕ
      part = take (at + m - at) (drop at uses)

      pub linking_within : Within n (take (at + m - at) (drop at uses))
      linking_within i l =
          let a = length-take (at + m - at) (drop at uses) in
          let d = length-drop at uses in
          rw (get_or-take (at + m - at) (drop at uses) i 0 (omega (arith, a)), get_or-drop at uses i 0) (omega (arith, u.within (at + i) (omega (arith, a, d))))

      more : links (map edge_number (take (at + m) uses)) (owners edges (take (k + 1) spans)) ≡ links (map edge_number (take at uses)) (owners edges (take k spans)) ++ member_links (edges + k) part
      more =
          let e : at + m - at ≡ m = omega arith in
          let long : length (take m (drop at uses)) ≡ m = length-take-le m (drop at uses) (omega (arith, length-drop at uses, linking_fits)) in
          let same : length (map edge_number (take at uses)) ≡ length (owners edges (take k spans)) =
          length-map (take at uses) edge_number ∙ length-take-le at uses (omega (arith, linking_fits)) ∙ s.walk.here ∙ sym (length_owners edges (take k spans)) in
          rw (e, long, add-one, owners_next edges spans k h, ← is, take-add at m uses, map-append edge_number (take at uses) (take m (drop at uses)))
          (links_append (map edge_number (take at uses)) (map edge_number (take m (drop at uses))) (owners edges (take k spans)) (replicate m (edges + k)) same)

      pub linking_next : {ps' ss' : List ℕ}
          → (ps' ≡ (joined_all (trees ps ss) (member_links (edges + k) (take (at + m - at) (drop at uses)))).parents) × (ss' ≡ (joined_all (trees ps ss) (member_links (edges + k) (take (at + m - at) (drop at uses)))).sizes)
          → Linking edges spans uses ps₀ ss₀ ps' ss' (k + 1) (at + m)
      linking_next o =
          let l = joined_all_long (trees ps ss) (member_links (edges + k) part) in
          rw (o.0, o.1) record {
            walk = walk_next spans k at m s.walk h is;
            forest = forest_all n (trees ps ss) (member_links (edges + k) part) s.forest (part_inside n part (edges + k) linking_within (omega arith));
            parents_long = l.0 ∙ s.parents_long;
            sizes_long = l.1 ∙ s.sizes_long;
            is = ap (λ (t : Trees). joined_all t (member_links (edges + k) part)) s.is
                ∙ sym (joined_append (trees ps₀ ss₀) (links (map edge_number (take at uses)) (owners edges (take k spans))) (member_links (edges + k) part))
                ∙ ap (joined_all (trees ps₀ ss₀)) (sym more);
          }

    pub linking_all : length spans ≤ k
        → (ps ≡ (joined_all (trees ps₀ ss₀) (use_links edges spans uses)).parents) × (ss ≡ (joined_all (trees ps₀ ss₀) (use_links edges spans uses)).sizes)
    linking_all h =
        let every : take k spans ≡ spans = take_all k spans h in
        let last : take at uses ≡ uses = take_all at uses (omega (arith, s.walk.here ∙ ap sum every, u.summed)) in
        let done : trees ps ss ≡ joined_all (trees ps₀ ss₀) (use_links edges spans uses) = rw (every, last) at s.is in
        (ap (λ (t : Trees). t.parents) done, ap (λ (t : Trees). t.sizes) done)
