-- Two pairs are joined by a chain of uses' links exactly if they are by one of the pairs that share edges: so the roots of the forest give the components.
use Prim.Native.Nat.{◌+◌, ◌<◌, ℕ}
use mathlib.Core.Bool.{false, true, true≢false}
use mathlib.Core.List.{List, Memᴰ}
use mathlib.Core.Logic.{⊎_elim}
use mathlib.Core.Path.{◌∙◌, ◌≡◌, refl, sym}
use native.Mathlib.Omega.{arith}
use lib.Dec.{eqb}
use lib.ListN.{length}
use borrow.Author.Tests.{eq-eqb, ne_eqb}
use Rattle.components.proofs.Members.{in_use_links, of_use_links}
use Rattle.components.specs.Pairs.{use_links}
use Rattle.groups.proofs.Meaning.{linked_same_group, same_linked}
use Rattle.groups.specs.Forest.{Grouped, root_of}
use Rattle.groups.specs.Groups.{Inside, Linked, against, along, here, link, same_group}
use Rattle.lists.proofs.Laws.{cases}
use Rattle.lists.specs.Lists.{split, sum}
use Rattle.shell.proofs.Components.{edges_of, in_pair_links, of_pair_links}
use Rattle.shell.specs.Components.{pair_links}

module _ (edges : ℕ) (spans uses : List ℕ) (e : sum spans ≡ length uses)
    (within : (k x : ℕ) → k < length (split spans uses) → Memᴰ x (edges_of (split spans uses) k) → x < edges) where
  abbrev parts : List (List ℕ)
  parts = split spans uses

  -- what a member that is linked with pair j tells: pair k itself, or an edge of pair k
  record Told (j x : ℕ) : Type 0 where
    pair : (k : ℕ) → k < length parts → x ≡ edges + k → Linked (pair_links parts) k j
    edge : (k : ℕ) → k < length parts → Memᴰ x (edges_of parts k) → Linked (pair_links parts) k j

  told : (j : ℕ) {x y : ℕ} → y ≡ edges + j → Linked (use_links edges spans uses) x y → Told j x
  told j o here = record {
    pair = λ k h p. let q : k ≡ j = omega (arith, o, p) in rw q here;
    edge = λ k h m. absurd (omega (arith, o, within k _ h m));
  }
  told j o (along l m p) =
      let u = of_use_links edges spans uses e l m in
      let rest : Linked (pair_links parts) u.0 j = (told j o p).pair u.0 u.1 u.2 in
      record {
        pair = λ k h q. absurd (omega (arith, q, within u.0 l.a u.1 u.3));
        edge = λ k h q. along (link k u.0) (in_pair_links parts k u.0 l.a h u.1 q u.3) rest;
      }
  told j o (against l m p) =
      let u = of_use_links edges spans uses e l m in
      let rest : Linked (pair_links parts) u.0 j = (told j o p).edge u.0 u.1 u.3 in
      record {
        pair = λ k h q. let w : k ≡ u.0 = omega (arith, q, u.2) in rw w rest;
        edge = λ k h q. absurd (omega (arith, u.2, within k l.b h q));
      }

  -- a chain of uses' links joins the pairs only if one of pairs that share edges does
  pub pairs_linked : (i j : ℕ) → i < length parts → Linked (use_links edges spans uses) (edges + i) (edges + j) → Linked (pair_links parts) i j
  pairs_linked i j h p = (told j refl p).pair i h refl

  -- a shared edge is two links
  by_edge : (i k x : ℕ) → i < length parts → k < length parts → Memᴰ x (edges_of parts i) → Memᴰ x (edges_of parts k)
      → {y : ℕ} → Linked (use_links edges spans uses) (edges + k) y → Linked (use_links edges spans uses) (edges + i) y
  by_edge i k x hi hk mi mk q =
      against (link x (edges + i)) (in_use_links edges spans uses e i x hi mi) (along (link x (edges + k)) (in_use_links edges spans uses e k x hk mk) q)

  pub linked_pairs : {i j : ℕ} → Linked (pair_links parts) i j → Linked (use_links edges spans uses) (edges + i) (edges + j)
  linked_pairs here = here
  linked_pairs (along l m p) = let u = of_pair_links parts l m in by_edge l.a l.b u.0 u.1 u.2 u.3 u.4 (linked_pairs p)
  linked_pairs (against l m p) = let u = of_pair_links parts l m in by_edge l.b l.a u.0 u.2 u.1 u.4 u.3 (linked_pairs p)

  inside : Inside (length parts) (pair_links parts)
  inside l m = let u = of_pair_links parts l m in (u.1, u.2)

  -- the roots of two pairs are equal exactly if these are in one component
  pub roots_same : (ps ss : List ℕ) → Grouped (edges + length parts) (use_links edges spans uses) ps ss
      → (i j : ℕ) → i < length parts → j < length parts
      → eqb (root_of ps (edges + i)) (root_of ps (edges + j)) ≡ same_group (length parts) (pair_links parts) i j
  roots_same ps ss g i j hi hj =
      let n = length parts in
      let li : edges + i < edges + n = omega arith in
      let lj : edges + j < edges + n = omega arith in
      let ri = root_of ps (edges + i) in
      let rj = root_of ps (edges + j) in
      ⊎_elim
      (λ (o : same_group n (pair_links parts) i j ≡ true).
      eq-eqb ri rj (g.means.same (edges + i) (edges + j) li lj (linked_pairs (same_linked n (pair_links parts) inside i j hi hj o))) ∙ sym o)
      (λ (o : same_group n (pair_links parts) i j ≡ false).
      ne_eqb ri rj
      (λ q. true≢false (sym (linked_same_group n (pair_links parts) inside i j hi hj
      (pairs_linked i j hi (g.means.linked (edges + i) (edges + j) li lj q))) ∙ o)) ∙ sym o)
      (cases (same_group n (pair_links parts) i j))
