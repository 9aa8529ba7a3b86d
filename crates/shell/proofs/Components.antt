-- Components: the labels of the pairs tell exactly what chains of shared edges join; each pair stands once, by first listing.
use Prim.Native.Nat.{◌<◌, suc, ℕ}
use mathlib.Core.Bool.{Bool, false, not, true, true≢false}
use mathlib.Core.List.Memᴰ
use mathlib.Core.List.{List, Memᴰ, [], ◌++◌, ◌∷◌, map}
use mathlib.Core.Logic.{⊎_elim}
use mathlib.Core.Path.{◌∙◌, ◌≡◌, ap, refl, sym}
use native.Mathlib.Omega.{arith}
use lib.Dec.{eqb}
use lib.ListN.{get_or-map, get_or, length, length-map}
use borrow.Author.Tests.{eq-eqb, eqb-false, eqb-true, ne_eqb}
use Rattle.edge.specs.Uses.{edge_number}
use Rattle.groups.proofs.Alike.{in_flat_map, member_at, of_flat, of_flat_map}
use Rattle.groups.proofs.All.{column_at}
use Rattle.groups.proofs.Meaning.{linked_same_group, same_linked}
use Rattle.groups.proofs.Members.{in_numbers, in_once, in_only, of_numbers, of_once, of_only, place_of, share, shared}
use Rattle.groups.specs.Groups.{Inside, Link, Linked, against, along, here, labels, link}
use Rattle.lists.proofs.Count.{all_each, count_append, count_map, count_same}
use Rattle.lists.proofs.Flat.{get_d_any}
use Rattle.lists.proofs.Laws.{cases}
use Rattle.lists.specs.Lists.{count, flat, numbers, once, only, pick}
use Rattle.pattern.specs.Checks.{outlines}
use Rattle.pattern.specs.Contents.{Content}
use Rattle.shell.proofs.Ascending.{ascends_at, ascends_map, ascends_only, ascends_same, ascends_suc, ascends_table}
use Rattle.shell.proofs.Grouping.{group_of, group_some, group_at, head_is, is_first, of_groups, once_in, same}
use Rattle.shell.specs.Components.{components, components_of, groups_of, has_wires, pair_links, share_edge, sharers, shell_pairs}
use Rattle.shell.specs.Conditions.{alike_to}
use Rattle.shell.specs.Meaning.{Ascends, Chain, ComponentsMean, Pair, SharedEdge, Together, ◌∈◌, backward, first_in, first_listing, onward, still}
use Rattle.shell.specs.Shells.{listings_of, shown_wires}

-- ---- the links: pairs that share an edge
-- the edges of pair k
abbrev pub edges_of : List (List ℕ) → ℕ → List ℕ
edges_of parts k = map edge_number (get_or parts k [])

module _ (parts : List (List ℕ)) where
  pub of_pair_links : (l : Link) → Memᴰ l (pair_links parts)
      → (x : ℕ) × (l.a < length parts) × (l.b < length parts) × Memᴰ x (edges_of parts l.a) × Memᴰ x (edges_of parts l.b)
  unfolding pair_links
  of_pair_links l m =
      let n = length parts in
      let r = of_flat_map (λ (i : ℕ). map (link i) (sharers parts i)) (numbers n) m in
      let i = r.0 in
      let s = Memᴰ.of_map (link i) (sharers parts i) r.2 in
      let j = s.0 in
      let o = of_only (λ (k : ℕ). share_edge (get_or parts i []) (get_or parts k [])) (numbers n) j s.1 in
      let t = shared (edges_of parts i) (edges_of parts j) o.1 in
      rw (← s.2) (t.0, of_numbers n i r.1, of_numbers n j o.0, t.1, t.2)

  pub in_pair_links : (i j x : ℕ) → i < length parts → j < length parts → Memᴰ x (edges_of parts i) → Memᴰ x (edges_of parts j)
      → Memᴰ (link i j) (pair_links parts)
  unfolding pair_links
  in_pair_links i j x hi hj mi mj =
      let n = length parts in
      in_flat_map (λ (k : ℕ). map (link k) (sharers parts k)) (in_numbers n i hi)
      (Memᴰ.map (link i)
      (in_only (λ (k : ℕ). share_edge (get_or parts i []) (get_or parts k [])) (numbers n) j (in_numbers n j hj) (share (edges_of parts i) (edges_of parts j) x mi mj)))

-- ---- the sequence of the pairs
past_first : (x y : ℕ) (xs : List ℕ) → (y ≡ x → ⊥) → suc (first_in xs y) ≡ first_in (x ∷ xs) y
past_first x y xs ne = rw (ne_eqb y x ne)

-- those that pass a test, each once, are ordered by where they first stand
once_ascends : (q : ℕ → Bool) (xs : List ℕ) → Ascends (first_in xs) (once (only q xs))
unfolding once only
once_ascends q [] = tt
once_ascends q (x ∷ xs) = one (q x) refl (once_ascends q xs)
  where
    one : (b : Bool) → q x ≡ b → Ascends (first_in xs) (once (only q xs)) → Ascends (first_in (x ∷ xs)) (once (pick b (x ∷ []) [] ++ only q xs))
    one true t h =
        let other : ℕ → Bool = λ (y : ℕ). not (eqb x y) in
        let rest = only other (once (only q xs)) in
        let ne : (y : ℕ) → y ∈ rest → y ≡ x → ⊥ = λ y m e.
        true≢false (sym (of_only other (once (only q xs)) y m).1 ∙ ap not (eq-eqb x y (sym e))) in (
          λ y m. rw (eq-eqb x x refl, ← past_first x y xs (ne y m)) (omega arith),
          ascends_same (λ (y : ℕ). suc (first_in xs y)) (first_in (x ∷ xs)) rest (λ y m. past_first x y xs (ne y m))
              (ascends_suc (first_in xs) rest (ascends_only (first_in xs) other (once (only q xs)) h)),
        )
    one false t h =
        ascends_same (λ (y : ℕ). suc (first_in xs y)) (first_in (x ∷ xs)) (once (only q xs))
        (λ y m. past_first x y xs (λ e. true≢false (sym (of_only q xs y (of_once (only q xs) y m)).1 ∙ ap q e ∙ t)))
        (ascends_suc (first_in xs) (once (only q xs)) h)

-- how often a number stands in lists that are mapped
counted : (x : ℕ) (f : ℕ → ℕ) (xss : List (List ℕ)) → count (eqb x) (flat (map (map f) xss)) ≡ count (λ (i : ℕ). eqb x (f i)) (flat xss)
unfolding flat count
counted x f [] = refl
counted x f (xs ∷ xss) =
    count_append (eqb x) (map f xs) (flat (map (map f) xss))
    ∙ rw (count_map (eqb x) f xs, counted x f xss) (sym (count_append (λ (i : ℕ). eqb x (f i)) xs (flat xss)))

module _ (c : Content) (n : ℕ) where
  abbrev pairs : List ℕ
  pairs = shell_pairs c n

  -- pair i is its listing
  abbrev at : ℕ → ℕ
  at i = get_or pairs i 0

  abbrev uses_of : ℕ → List ℕ
  uses_of l = flat (shown_wires (outlines c) l)

  abbrev parts : List (List ℕ)
  parts = map uses_of pairs

  abbrev N : ℕ
  N = length parts

  abbrev L : List Link
  L = pair_links parts

  abbrev label : ℕ → ℕ
  label i = get_or (labels N L) i 0

  long : N ≡ length pairs
  long = length-map pairs uses_of

  edges_at : (i : ℕ) → i < N → edges_of parts i ≡ map edge_number (uses_of (at i))
  edges_at i h = ap (map edge_number) (get_d_any parts i [] (uses_of 0) h ∙ get_or-map uses_of pairs i 0)

  is_pair : (l : ℕ) → l ∈ pairs → Pair c n l
  is_pair l m =
      let r = of_only (has_wires (outlines c)) (listings_of c n) l (of_once (only (has_wires (outlines c)) (listings_of c n)) l m) in
      record { listed = r.0; wired = r.1 }

  pair_at : (i : ℕ) → i < N → Pair c n (at i)
  pair_at i h = is_pair (at i) (member_at 0 pairs i (omega (arith, h, long)))

  place : (l : ℕ) → Pair c n l → (i : ℕ) × (i < N) × (at i ≡ l)
  place l p =
      let m : l ∈ pairs = in_once (only (has_wires (outlines c)) (listings_of c n)) l (in_only (has_wires (outlines c)) (listings_of c n) l p.listed p.wired) in
      let r = place_of 0 pairs l m in
      (r.0, omega (arith, r.1, long), r.2)

  pairs_ascend : Ascends (first_listing c n) pairs
  pairs_ascend = once_ascends (has_wires (outlines c)) (listings_of c n)

  later : (i j : ℕ) → i < j → j < N → first_listing c n (at i) < first_listing c n (at j)
  later i j l h = ascends_at (first_listing c n) 0 pairs pairs_ascend i j l (omega (arith, h, long))

  -- no pair stands at two places
  one_place : (i j : ℕ) → i < N → j < N → at i ≡ at j → i ≡ j
  one_place i j hi hj e =
      let z : first_listing c n (at i) ≡ first_listing c n (at j) = ap (first_listing c n) e in
      let a : i < j → ⊥ = λ l. omega (arith, later i j l hj, z) in
      let b : j < i → ⊥ = λ l. omega (arith, later j i l hi, z) in
      omega (arith, a, b)

  -- ---- chains
  inside : Inside N L
  inside l m = let u = of_pair_links parts l m in (u.1, u.2)

  shared_at : (l : Link) → Memᴰ l L → SharedEdge c n (at l.a) (at l.b)
  shared_at l m =
      let u = of_pair_links parts l m in record {
        left = pair_at l.a u.1;
        right = pair_at l.b u.2;
        edge = u.0;
        in_left = rw (edges_at l.a u.1) at u.3;
        in_right = rw (edges_at l.b u.2) at u.4;
      }

  linked_chain : {i j : ℕ} → Linked L i j → Chain (SharedEdge c n) (at i) (at j)
  linked_chain here = still
  linked_chain (along l m p) = onward (shared_at l m) (linked_chain p)
  linked_chain (against l m p) = backward (shared_at l m) (linked_chain p)

  link_at : (i j : ℕ) → i < N → j < N → SharedEdge c n (at i) (at j) → Memᴰ (link i j) L
  link_at i j hi hj s = in_pair_links parts i j s.edge hi hj (rw (edges_at i hi) s.in_left) (rw (edges_at j hj) s.in_right)

  chain_linked : {l m : ℕ} → Chain (SharedEdge c n) l m → (i j : ℕ) → i < N → j < N → at i ≡ l → at j ≡ m → Linked L i j
  chain_linked still i j hi hj ei ej = let z : i ≡ j = one_place i j hi hj (ei ∙ sym ej) in rw z here
  chain_linked (onward {x} {y} s p) i j hi hj ei ej =
      let k = place y s.right in
      along (link i k.0) (link_at i k.0 hi k.1 (rw (ei, k.2) s)) (chain_linked p k.0 j k.1 hj k.2 ej)
  chain_linked (backward {x} {y} s p) i j hi hj ei ej =
      let k = place y s.left in
      against (link k.0 i) (link_at k.0 i k.1 hi (rw (ei, k.2) s)) (chain_linked p k.0 j k.1 hj k.2 ej)

  -- ---- the components
  abbrev groups : List (List ℕ)
  groups = groups_of N (same label)

  -- a component is the group of its first pair
  of_components : (g : List ℕ) → g ∈ components c n → (i : ℕ) × (i < N) × (is_first label i ≡ true) × (map at (group_at label N i) ≡ g)
  unfolding components_of
  of_components g m =
      let r = Memᴰ.of_map (map at) groups m in
      let s = of_groups label N r.0 r.1 in
      (s.0, s.1, s.2, ap (map at) s.3 ∙ r.2)

  -- its pairs have one label
  of_group : (i : ℕ) (g : List ℕ) → map at (group_at label N i) ≡ g → (l : ℕ) → l ∈ g → (j : ℕ) × (j < N) × (at j ≡ l) × (label i ≡ label j)
  of_group i g e l m =
      let o : l ∈ map at (group_at label N i) = rw e m in
      let r = Memᴰ.of_map at (group_at label N i) o in
      let s = of_only (same label i) (numbers N) r.0 r.1 in
      (r.0, of_numbers N r.0 s.0, r.2, eqb-true (label i) (label r.0) s.1)

  in_group : (i j : ℕ) → j < N → label i ≡ label j → at j ∈ map at (group_at label N i)
  in_group i j h e = Memᴰ.map at (in_only (same label i) (numbers N) j (in_numbers N j h) (eq-eqb (label i) (label j) e))

  together_chain : (l m : ℕ) → Together c n l m → Chain (SharedEdge c n) l m
  together_chain l m t =
      let r = of_components t.component t.one_of in
      let x = of_group r.0 t.component r.3 l t.left in
      let y = of_group r.0 t.component r.3 m t.right in
      let q = linked_chain (same_linked N L inside x.0 y.0 x.1 y.1 (eq-eqb (label x.0) (label y.0) (sym x.3 ∙ y.3))) in
      rw (x.2, y.2) at q

  chain_together : (l m : ℕ) → Pair c n l → Pair c n m → Chain (SharedEdge c n) l m → Together c n l m
  unfolding components_of
  chain_together l m p q h =
      let x = place l p in
      let y = place m q in
      let s = linked_same_group N L inside x.0 y.0 x.1 y.1 (chain_linked h x.0 y.0 x.1 y.1 x.2 y.2) in
      let e : label x.0 ≡ label y.0 = eqb-true (label x.0) (label y.0) s in
      let g = group_of label N x.0 x.1 in record {
        component = map at (group_at label N g.0);
        one_of = Memᴰ.map (map at) g.1;
        left = Memᴰ.cast (sym x.2) (in_group g.0 x.0 x.1 g.2);
        right = Memᴰ.cast (sym y.2) (in_group g.0 y.0 y.1 (g.2 ∙ e));
      }

  once_each : (l : ℕ) → Pair c n l → alike_to (flat (components c n)) l ≡ 1
  unfolding alike_to components_of
  once_each l p =
      let x = place l p in
      let below : (i : ℕ) → i ∈ flat groups → i < N = λ i m.
      let r = of_flat groups m in
      let s = of_groups label N r.0 r.1 in
      of_numbers N i (of_only (same label s.0) (numbers N) i (rw s.3 r.2)).0 in
      let alike : (i : ℕ) → i < N → eqb l (at i) ≡ eqb x.0 i = λ i h.
      ⊎_elim
      (λ (e : eqb x.0 i ≡ true). let z : x.0 ≡ i = eqb-true x.0 i e in eq-eqb l (at i) (sym x.2 ∙ ap at z) ∙ sym e)
      (λ (e : eqb x.0 i ≡ false). ne_eqb l (at i) (λ z. eqb-false x.0 i e (one_place x.0 i x.1 h (x.2 ∙ z))) ∙ sym e)
      (cases (eqb x.0 i)) in
      counted l at groups
      ∙ count_same (λ (i : ℕ). eqb l (at i)) (eqb x.0) (flat groups)
      (all_each (λ (i : ℕ). eqb l (at i) ≡ eqb x.0 i) 0 (flat groups) (λ k h. let i = get_or (flat groups) k 0 in alike i (below i (member_at 0 (flat groups) k h))))
      ∙ once_in label N x.0 x.1

  numbers_ascend : Ascends (λ (i : ℕ). first_listing c n (at i)) (numbers N)
  numbers_ascend = ascends_table (λ (i : ℕ). first_listing c n (at i)) N (λ (i : ℕ). i) later

  outer_ascends : Ascends (λ (g : List ℕ). first_listing c n (get_or g 0 0)) (components c n)
  unfolding components_of groups_of
  outer_ascends =
      let F : List ℕ → ℕ = λ (g : List ℕ). first_listing c n (get_or g 0 0) in
      let G : ℕ → List ℕ = group_at label N in
      let is = only (is_first label) (numbers N) in
      ascends_map F (map at) (map G is)
      (ascends_map (λ (g : List ℕ). F (map at g)) G is
      (ascends_same (λ (i : ℕ). first_listing c n (at i)) (λ (i : ℕ). F (map at (G i))) is
      (λ i m.
      let s = of_only (is_first label) (numbers N) i m in
      let h = of_numbers N i s.0 in
      ap (first_listing c n) (sym (column_at at (G i) 0 (group_some label N i h) ∙ ap at (head_is label N i h s.1))))
      (ascends_only (λ (i : ℕ). first_listing c n (at i)) (is_first label) (numbers N) numbers_ascend)))

  pub components_are : ComponentsMean c n
  components_are = record {
    linked = λ l m p q. (together_chain l m, chain_together l m p q);
    once = once_each;
    pairs = λ l m.
        let r = of_flat (components c n) m in
        let s = of_components r.0 r.1 in
        let x = of_group s.0 r.0 s.3 l r.2 in
        rw x.2 at (pair_at x.0 x.1);
    some = λ g m.
        let s = of_components g m in
        rw (← s.3, length-map (group_at label N s.0) at) (group_some label N s.0 s.1);
    inner = λ g m.
        let s = of_components g m in
        rw (← s.3)
        (ascends_map (first_listing c n) at (group_at label N s.0)
        (ascends_only (λ (i : ℕ). first_listing c n (at i)) (same label s.0) (numbers N) numbers_ascend));
    outer = outer_ascends;
  }
