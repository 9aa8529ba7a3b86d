-- The forest of the uses' links: what the code leaves in the arrays, and that its roots are the keys of the components.
use Prim.Native.Nat.{◌+◌, ◌<◌, ◌≤◌, ℕ}
use mathlib.Core.List.{List, Memᴰ, [], map}
use mathlib.Core.Path.{◌∙◌, ◌≡◌, ap, sym}
use native.Mathlib.Omega.{arith}
use lib.ListN.{get_or, length, length-replicate, replicate, take}
use lib.Seq.{length-sets, sets}
use Rattle.components.proofs.Loops.{roots_long}
use Rattle.components.proofs.Members.{of_use_links}
use Rattle.components.proofs.Theorem.{roots_same}
use Rattle.components.specs.Pairs.{Linkable, Paired, pair_roots, use_links, use_trees}
use Rattle.edge.specs.Uses.{edge_number}
use Rattle.groups.proofs.Climbing.{root_below}
use Rattle.groups.proofs.Laws.{grouped_all, grouped_start}
use Rattle.groups.proofs.Members.{all_member}
use Rattle.groups.specs.Forest.{Grouped, root_of, started}
use Rattle.groups.specs.Groups.{Inside, same_group}
use Rattle.lists.proofs.Count.{All, all_at, all_each, all_map, all_split}
use Rattle.lists.proofs.Flat.{get_d_tabulate}
use Rattle.lists.proofs.Laws.{length_split}
use Rattle.lists.proofs.Sets.{take_sets}
use Rattle.lists.specs.Lists.{flat, split}
use Rattle.sequence.proofs.Loops.{key_groups_few, key_groups_long}
use Rattle.sequence.proofs.Only.{groups_same}
use Rattle.sequence.specs.Keys.{Keyed, key_groups, named, same_key}
use Rattle.shell.proofs.Components.{edges_of}
use Rattle.shell.specs.Components.{components_of, groups_of, pair_links}

module _ (spans uses : List ℕ) (edges : ℕ) (u : Linkable spans uses edges) where
  abbrev parts : List (List ℕ)
  parts = split spans uses

  abbrev n : ℕ
  n = edges + length spans

  edges_low : (k x : ℕ) → k < length parts → Memᴰ x (edges_of parts k) → x < edges
  edges_low k x h m =
      let P : ℕ → Type 0 = λ (v : ℕ). edge_number v < edges in
      let part : All P (get_or parts k []) = all_at (All P) [] tt parts (all_split P spans uses (all_each P 0 uses u.within)) k in
      all_member (λ (y : ℕ). y < edges) (edges_of parts k) (all_map P (λ (y : ℕ). y < edges) edge_number (λ v o. o) (get_or parts k []) part) x m

  inside : Inside n (use_links edges spans uses)
  inside l m =
      let r = of_use_links edges spans uses u.summed l m in
      (omega (arith, edges_low r.0 l.a r.1 r.3), omega (arith, r.1, r.2, length_split spans uses))

  few : n < 65536
  few = omega (arith, u.low, u.few)

  use_grouped : (ps ss : List ℕ) → Grouped n (use_links edges spans uses) (use_trees edges spans uses ps ss).parents (use_trees edges spans uses ps ss).sizes
  use_grouped ps ss = grouped_all n [] (use_links edges spans uses) (started n ps ss) (grouped_start n ps ss few) inside

  -- ---- the roots
  abbrev keys : List ℕ
  keys = pair_roots edges spans uses

  abbrev top : List ℕ
  top = (use_trees edges spans uses (replicate 2048 0) (replicate 2048 0)).parents

  abbrev weights : List ℕ
  weights = (use_trees edges spans uses (replicate 2048 0) (replicate 2048 0)).sizes

  grouped : Grouped n (use_links edges spans uses) top weights
  grouped = use_grouped (replicate 2048 0) (replicate 2048 0)

  keys_long : length keys ≡ length spans
  keys_long = roots_long top edges (length spans)

  key_at : (k : ℕ) → k < length spans → get_or keys k 0 ≡ root_of top (edges + k)
  key_at k h = get_d_tabulate (length spans) (λ (j : ℕ). root_of top (edges + j)) k 0 h

  -- pairs have the same key exactly if they are in one component
  keys_same : (i j : ℕ) → i < length parts → j < length parts → same_key keys i j ≡ same_group (length parts) (pair_links parts) i j
  keys_same i j hi hj =
      let l = length_split spans uses in
      rw (key_at i (omega (arith, l)), key_at j (omega (arith, l)))
      (roots_same edges spans uses u.summed edges_low top weights (rw l grouped) i j hi hj)

  -- so the groups by keys are the components
  pub key_components : (pairs : List ℕ) → key_groups pairs keys ≡ components_of pairs parts
  unfolding components_of
  key_components pairs =
      ap (map (named pairs))
      (ap (λ (m : ℕ). groups_of m (same_key keys)) (keys_long ∙ sym (length_split spans uses))
      ∙ groups_same (length parts) (same_key keys) (same_group (length parts) (pair_links parts)) keys_same)

  module _ (pairs out lens : List ℕ) (p : Paired pairs spans uses edges out lens) where
    pub keys_keyed : Keyed keys pairs out lens
    keys_keyed = record {
      few = omega (arith, keys_long, u.few);
      alike = sym (keys_long ∙ p.alike);
      low = λ k h. let l : k < length spans = omega (arith, keys_long) in
          omega (arith, key_at k l, root_below n top weights grouped.forest (edges + k) (omega arith), u.low, u.few);
      members = omega (arith, keys_long, p.alike, p.members);
      groups = omega (arith, keys_long, p.alike, p.groups);
    }

    module _ (ks : List ℕ) (made : ks ≡ sets (replicate 512 0) 0 keys) where
      pub keys_part : take (length pairs) ks ≡ keys
      keys_part =
          ap (take (length pairs)) made
          ∙ take_sets (replicate 512 0) keys (length pairs) (keys_long ∙ p.alike) (omega (arith, p.alike, u.few, length-replicate {A = ℕ} 512 0))

      pub keys_room : length pairs ≤ length ks
      keys_room = omega (arith, ap length made, length-sets {A = ℕ} (replicate 512 0) 0 keys, length-replicate {A = ℕ} 512 0, p.alike, u.few)

    pub components_long : length (flat (components_of pairs parts)) ≡ length pairs
    components_long = rw (← key_components pairs) (key_groups_long pairs keys ∙ keys_long ∙ p.alike)

    pub components_few : length (components_of pairs parts) ≤ length pairs
    components_few = rw (← key_components pairs) (omega (arith, key_groups_few pairs keys, keys_long, p.alike))
