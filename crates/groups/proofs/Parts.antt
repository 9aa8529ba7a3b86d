-- The loop that joins, part by part of a list, the links that each part makes.
use Prim.Native.Nat.{◌+◌, ◌-◌, ◌<◌, ◌≤◌, suc, ℕ}
use mathlib.Core.List.{List, [], ◌++◌, map}
use mathlib.Core.Path.{◌∙◌, ◌≡◌, ap, refl, sym}
use native.Mathlib.Numerals.{add-one}
use native.Mathlib.Omega.{arith}
use lib.ListN.{drop, drop_of_length-le, get_or, length, take}
use lib.Seq.{drop-cons}
use Rattle.groups.proofs.All.{forest_all, joined_all_long, joined_append}
use Rattle.groups.specs.Forest.{Forest, Trees, joined_all, trees}
use Rattle.groups.specs.Groups.{Inside, Link}
use Rattle.lists.proofs.Laws.{length_split}
use Rattle.lists.proofs.Split.{Walk, walk_fits, walk_next, walk_part, walk_start}
use Rattle.lists.specs.Lists.{flat, split, sum}

module _ (f : List ℕ → List Link) where
  abbrev rest_links : List ℕ → List ℕ → ℕ → List Link
  rest_links ns xs k = flat (map f (drop k (split ns xs)))

  -- the links of k parts are joined, and the next part begins at place `at`
  pub record PartJoins (n : ℕ) (ns xs ps₀ ss₀ ps ss : List ℕ) (k at : ℕ) : Type 0 where
    pub walk : Walk ns k at
    pub room : sum ns ≤ length xs
    pub forest : Forest n ps ss
    pub parents_long : length ps ≡ length ps₀
    pub sizes_long : length ss ≡ length ss₀
    pub is : joined_all (trees ps₀ ss₀) (flat (map f (split ns xs))) ≡ joined_all (trees ps ss) (rest_links ns xs k)

  pub part_joins_start : (n : ℕ) (ns xs ps ss : List ℕ) → Forest n ps ss → sum ns ≤ length xs → PartJoins n ns xs ps ss ps ss 0 0
  part_joins_start n ns xs ps ss t h = record {
    walk = walk_start ns;
    room = h;
    forest = t;
    parents_long = refl;
    sizes_long = refl;
    is = refl;
  }

  module _ {n : ℕ} {ns xs ps₀ ss₀ ps ss : List ℕ} {k at : ℕ} (s : PartJoins n ns xs ps₀ ss₀ ps ss k at) where
    module _ {m : ℕ} (h : k < length ns) (e : m ≡ get_or ns k 0) where
      pub part_joins_fits : at + m ≤ length xs
      part_joins_fits = omega (arith, s.room, walk_fits ns k at m s.walk h e)

      abbrev part : List ℕ
      part = take (at + m - at) (drop at xs)

      split_links : rest_links ns xs k ≡ f part ++ rest_links ns xs (suc k)
      unfolding flat
      split_links = rw (drop-cons (split ns xs) k [] (omega (arith, length_split ns xs)), walk_part ns k at m s.walk h e xs)

      pub part_joins_next : Inside n (f (take (at + m - at) (drop at xs))) → {ps' ss' : List ℕ}
          → (ps' ≡ (joined_all (trees ps ss) (f (take (at + m - at) (drop at xs)))).parents)
          × (ss' ≡ (joined_all (trees ps ss) (f (take (at + m - at) (drop at xs)))).sizes)
          → PartJoins n ns xs ps₀ ss₀ ps' ss' (k + 1) (at + m)
      part_joins_next i o =
          let l = joined_all_long (trees ps ss) (f part) in
          rw (o.0, o.1) record {
            walk = walk_next ns k at m s.walk h e;
            room = s.room;
            forest = forest_all n (trees ps ss) (f part) s.forest i;
            parents_long = l.0 ∙ s.parents_long;
            sizes_long = l.1 ∙ s.sizes_long;
            is = rw add-one (s.is ∙ ap (joined_all (trees ps ss)) split_links ∙ joined_append (trees ps ss) (f part) (rest_links ns xs (suc k)));
          }

    pub part_joins_all : length ns ≤ k
        → (ps ≡ (joined_all (trees ps₀ ss₀) (flat (map f (split ns xs)))).parents) × (ss ≡ (joined_all (trees ps₀ ss₀) (flat (map f (split ns xs)))).sizes)
    unfolding joined_all flat
    part_joins_all h =
        let none : drop k (split ns xs) ≡ [] = drop_of_length-le (split ns xs) {i = k} (omega (arith, length_split ns xs)) in
        let e : joined_all (trees ps₀ ss₀) (flat (map f (split ns xs))) ≡ trees ps ss =
        s.is ∙ ap (λ (r : List (List ℕ)). joined_all (trees ps ss) (flat (map f r))) none in
        (sym (ap (λ (t : Trees). t.parents) e), sym (ap (λ (t : Trees). t.sizes) e))
