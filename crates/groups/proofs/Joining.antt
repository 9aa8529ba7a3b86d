-- A forest stays one where the root of a tree goes under the root of another that is as large or larger.
use Prim.Native.Nat.{◌*◌, ◌+◌, ◌<◌, ◌≤◌, ℕ}
use mathlib.Core.Bool.{false, true}
use mathlib.Core.List.{List}
use mathlib.Core.Logic.{⊎_elim}
use mathlib.Core.Path.{◌∙◌, ◌≡◌, ap, refl, sym}
use native.Mathlib.Omega.{arith}
use lib.Dec.{eqb}
use lib.ListN.{get_or, length, length-set, set}
use lib.Seq.{get_or-set_other, get_or-set_same}
use borrow.Author.Tests.{eq-eqb, eqb-false, eqb-true, le-ltb, lt-ltb, ne_eqb}
use Rattle.groups.proofs.Climbing.{same_parent}
use Rattle.groups.proofs.Sums.{sum_change, sum_holds}
use Rattle.groups.specs.Forest.{Forest, Ready, Root, Trees, joined, root_of, rooted, under, weight}
use Rattle.lists.proofs.Laws.{cases}
use Rattle.lists.specs.Lists.{pick, sum, tabulate}

root_weight : (ps ss : List ℕ) (r : ℕ) → Root ps r → weight ps ss r ≡ get_or ss r 0
root_weight ps ss r h = rw (eq-eqb (get_or ps r 0) r h)

other_weight : (ps ss : List ℕ) (r : ℕ) → (Root ps r → ⊥) → weight ps ss r ≡ 0
other_weight ps ss r h = rw (ne_eqb (get_or ps r 0) r h)

module _ (n : ℕ) (ps ss : List ℕ) (f : Forest n ps ss) (a b : ℕ) (ha : a < n) (hb : b < n) (ra : Root ps a) (rb : Root ps b) (ne : a ≡ b → ⊥) where
  -- the weights without that of b
  abbrev rest : ℕ → ℕ
  rest x = pick (eqb x b) 0 (weight ps ss x)

  rest_b : rest b ≡ 0
  rest_b = rw (eq-eqb b b refl)

  rest_other : (x : ℕ) → (x ≡ b → ⊥) → rest x ≡ weight ps ss x
  rest_other x h = rw (ne_eqb x b h)

  rest_sum : sum (tabulate n rest) + get_or ss b 0 ≡ n
  rest_sum =
      omega (
        arith,
        f.all,
        rest_b,
        root_weight ps ss b rb,
        sum_change n (weight ps ss) rest b hb (λ x l h. sym (rest_other x h)),
      )

  -- the sizes of two roots are no more than the members
  pub two_sizes : get_or ss a 0 + get_or ss b 0 ≤ n
  two_sizes = omega (arith, rest_sum, rest_other a ne, root_weight ps ss a ra, sum_holds n rest a ha)

  abbrev ps' : List ℕ
  ps' = set ps b a

  abbrev ss' : List ℕ
  ss' = set ss a (get_or ss a 0 + get_or ss b 0)

  parent_b : get_or ps' b 0 ≡ a
  parent_b = get_or-set_same ps b a 0 (omega (arith, f.long))

  parent_other : (x : ℕ) → (x ≡ b → ⊥) → get_or ps' x 0 ≡ get_or ps x 0
  parent_other x h = get_or-set_other ps b x a 0 h

  size_a : get_or ss' a 0 ≡ get_or ss a 0 + get_or ss b 0
  size_a = get_or-set_same ss a (get_or ss a 0 + get_or ss b 0) 0 (omega (arith, f.sized))

  size_other : (x : ℕ) → (x ≡ a → ⊥) → get_or ss' x 0 ≡ get_or ss x 0
  size_other x h = get_or-set_other ss a x (get_or ss a 0 + get_or ss b 0) 0 h

  -- a size does not fall
  size_up : (x : ℕ) → get_or ss x 0 ≤ get_or ss' x 0
  size_up x =
      ⊎_elim
      (λ (e : eqb x a ≡ true). rw (eqb-true x a e) (omega (arith, size_a)))
      (λ (e : eqb x a ≡ false). omega (arith, size_other x (eqb-false x a e)))
      (cases (eqb x a))

  below' : (x : ℕ) → x < n → get_or ps' x 0 < n
  below' x h =
      ⊎_elim
      (λ (e : eqb x b ≡ true). rw (eqb-true x b e) (omega (arith, parent_b)))
      (λ (e : eqb x b ≡ false). omega (arith, parent_other x (eqb-false x b e), f.below x h))
      (cases (eqb x b))

  cap' : (x : ℕ) → x < n → get_or ss' x 0 ≤ n
  cap' x h =
      ⊎_elim
      (λ (e : eqb x a ≡ true). rw (eqb-true x a e) (omega (arith, size_a, two_sizes)))
      (λ (e : eqb x a ≡ false). omega (arith, size_other x (eqb-false x a e), f.cap x h))
      (cases (eqb x a))

  weight' : (x : ℕ) → (x ≡ a → ⊥) → rest x ≡ weight ps' ss' x
  weight' x h =
      ⊎_elim
      (λ (e : eqb x b ≡ true). rw (eqb-true x b e) (rest_b ∙ sym (other_weight ps' ss' b (λ o. ne (sym parent_b ∙ o)))))
      (λ (e : eqb x b ≡ false). rest_other x (eqb-false x b e) ∙ rw (parent_other x (eqb-false x b e), size_other x h))
      (cases (eqb x b))

  all' : sum (tabulate n (weight ps' ss')) ≡ n
  all' =
      omega (
        arith,
        rest_sum,
        size_a,
        rest_other a ne,
        root_weight ps ss a ra,
        root_weight ps' ss' a (parent_other a ne ∙ ra),
        sum_change n rest (weight ps' ss') a ha (λ x l h. weight' x h),
      )

  module _ (le : get_or ss b 0 ≤ get_or ss a 0) where
    grows' : (x : ℕ) → x < n → (Root ps' x → ⊥) → 2 * get_or ss' x 0 ≤ get_or ss' (get_or ps' x 0) 0
    grows' x h o =
        ⊎_elim
        (λ (e : eqb x b ≡ true). rw (eqb-true x b e, parent_b, size_a, size_other b (λ q. ne (sym q))) (omega arith))
        (λ (e : eqb x b ≡ false). let p = parent_other x (eqb-false x b e) in
        let r : Root ps x → ⊥ = λ q. o (p ∙ q) in
        rw (p, size_other x (λ q. r (rw q ra))) (omega (arith, f.grows x h r, size_up (get_or ps x 0))))
        (cases (eqb x b))

    pub forest_under : Forest n ps' ss'
    forest_under = record {
      few = f.few;
      long = rw (length-set ps b a) f.long;
      sized = rw (length-set ss a (get_or ss a 0 + get_or ss b 0)) f.sized;
      below = below';
      some = λ x h. omega (arith, f.some x h, size_up x);
      cap = cap';
      grows = grows';
      all = all';
    }

-- ---- the cases of the definition
module _ (ps ss : List ℕ) (a b : ℕ) where
  pub rooted_one : a ≡ b → rooted ps ss a b ≡ record { parents = ps; sizes = ss }
  unfolding rooted
  rooted_one e = rw (eq-eqb a b e)

  pub rooted_less : (a ≡ b → ⊥) → get_or ss a 0 < get_or ss b 0 → rooted ps ss a b ≡ under ps ss b a
  unfolding rooted
  rooted_less ne l = rw (ne_eqb a b ne, lt-ltb (get_or ss a 0) (get_or ss b 0) l)

  pub rooted_more : (a ≡ b → ⊥) → get_or ss b 0 ≤ get_or ss a 0 → rooted ps ss a b ≡ under ps ss a b
  unfolding rooted
  rooted_more ne l = rw (ne_eqb a b ne, le-ltb (get_or ss a 0) (get_or ss b 0) l)

-- two with the same parent are in one tree: nothing changes
pub joined_alike : (ps ss : List ℕ) (i j : ℕ) → Ready ps ss i j → get_or ps i 0 ≡ get_or ps j 0
    → (ps ≡ (joined ps ss i j).parents) × (ss ≡ (joined ps ss i j).sizes)
joined_alike ps ss i j r e =
    let one = rooted_one ps ss (root_of ps i) (root_of ps j) (same_parent ps i j r.left r.right e) in
    (sym (ap (λ (t : Trees). t.parents) one), sym (ap (λ (t : Trees). t.sizes) one))

pub ready_back : (ps ss : List ℕ) (i j : ℕ) → Ready ps ss i j → Ready ps ss j i
ready_back ps ss i j r = record {
  left = r.right;
  right = r.left;
  left_low = r.right_low;
  right_low = r.left_low;
  left_sized = r.right_sized;
  right_sized = r.left_sized;
  fits = λ ne. omega (arith, r.fits (λ e. ne (sym e)));
}

-- what putting the root of j under that of i asks
pub ready_under : (ps ss : List ℕ) (i j a b : ℕ) → Ready ps ss i j → a ≡ root_of ps i → b ≡ root_of ps j → (a ≡ b → ⊥)
    → ((a < 65536) × (b < length ps)) × (((a < length ss) × (b < length ss)) × (get_or ss a 0 + get_or ss b 0 < 65536))
ready_under ps ss i j a b r p q ne =
    let n : root_of ps i ≡ root_of ps j → ⊥ = λ e. ne (p ∙ e ∙ sym q) in
    rw (p, q) ((r.left_low, r.right.inside (length ps)), ((r.left_sized, r.right_sized), r.fits n))
