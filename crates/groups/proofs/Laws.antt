-- The trees stand for the groups of the links: at the start for no links, and after a join for one more.
use Prim.Native.Nat.{◌+◌, ◌<◌, ◌≤◌, ℕ}
use mathlib.Core.Bool.{false, true, true≢false}
use mathlib.Core.List.Memᴰ
use mathlib.Core.List.{List, Memᴰ, [], ◌++◌, ◌∷◌, append_assoc, append-nil}
use mathlib.Core.Logic.{⊎_elim}
use mathlib.Core.Path.{◌∙◌, ◌≡◌, refl, sym}
use native.Mathlib.Omega.{arith}
use lib.Dec.{eqb, ltb}
use lib.ListN.{get_or-append, drop, get_or, length, length-append, set}
use borrow.Author.Tests.{eq-eqb, eqb-false, eqb-true, ltb-false, ltb-true, ne_eqb}
use Rattle.groups.proofs.Climbing.{climb_root, climbs, root_below, root_moved, root_top}
use Rattle.groups.proofs.Joining.{forest_under, rooted_less, rooted_more, rooted_one, two_sizes}
use Rattle.groups.proofs.Meaning.{Merges, linked_same_group, means_next, means_none, merges_none, merges_renamed, merges_sym, same_linked}
use Rattle.groups.proofs.Sums.{sum_alike, sum_ones}
use Rattle.groups.specs.Forest.{Climbs, Forest, Grouped, Ready, Trees, joined, joined_all, root_of, rooted, started, trees, under, weight}
use Rattle.groups.specs.Groups.{Inside, Link, Linked, Means, links, same_group}
use Rattle.lists.proofs.Flat.{get_d_tabulate}
use Rattle.lists.proofs.Laws.{cases, length_tabulate}
use Rattle.lists.specs.Lists.{sum, tabulate}

abbrev Stands : ℕ → List Link → Trees → Type 0
Stands n L t = Grouped n L t.parents t.sizes

module _ (n : ℕ) (ps ss : List ℕ) (f : Forest n ps ss) where
  pub ready : (i j : ℕ) → i < n → j < n → Ready ps ss i j
  ready i j hi hj = record {
    left = climbs n ps ss f i hi;
    right = climbs n ps ss f j hj;
    left_low = omega (arith, root_below n ps ss f i hi, f.few);
    right_low = omega (arith, root_below n ps ss f j hj, f.few);
    left_sized = omega (arith, root_below n ps ss f i hi, f.sized);
    right_sized = omega (arith, root_below n ps ss f j hj, f.sized);
    fits = λ ne. omega (
      arith,
      f.few,
      two_sizes n ps ss f (root_of ps i) (root_of ps j) (root_below n ps ss f i hi) (root_below n ps ss f j hj) (root_top n ps ss f i hi) (root_top n ps ss f j hj) ne,
    );
  }

-- ---- the start
table_at : (n : ℕ) (g : ℕ → ℕ) (l : List ℕ) (i : ℕ) → i < n → get_or (tabulate n g ++ drop n l) i 0 ≡ g i
table_at n g l i h =
    get_or-append (tabulate n g) (drop n l) 0 i (omega (arith, length_tabulate n g)) ∙ get_d_tabulate n g i 0 h

table_long : (n : ℕ) (g : ℕ → ℕ) (l : List ℕ) → n ≤ length (tabulate n g ++ drop n l)
table_long n g l = omega (arith, length-append (tabulate n g) (drop n l), length_tabulate n g)

module _ (n : ℕ) (ps ss : List ℕ) (few : n < 65536) where
  abbrev ps₀ : List ℕ
  ps₀ = (started n ps ss).parents

  abbrev ss₀ : List ℕ
  ss₀ = (started n ps ss).sizes

  parent₀ : (i : ℕ) → i < n → get_or ps₀ i 0 ≡ i
  parent₀ i h = table_at n (λ (k : ℕ). k) ps i h

  size₀ : (i : ℕ) → i < n → get_or ss₀ i 0 ≡ 1
  size₀ i h = table_at n (λ (k : ℕ). 1) ss i h

  pub grouped_start : Grouped n [] (started n ps ss).parents (started n ps ss).sizes
  grouped_start = record {
    forest = record {
      few = few;
      long = table_long n (λ (k : ℕ). k) ps;
      sized = table_long n (λ (k : ℕ). 1) ss;
      below = λ i h. omega (arith, parent₀ i h);
      some = λ i h. omega (arith, size₀ i h);
      cap = λ i h. omega (arith, size₀ i h);
      grows = λ i h o. absurd (o (parent₀ i h));
      all = sum_alike n (weight ps₀ ss₀) (λ (k : ℕ). 1) (λ x h. rw (eq-eqb (get_or ps₀ x 0) x (parent₀ x h)) (size₀ x h)) ∙ sum_ones n;
    };
    means = means_none n (root_of ps₀) (λ i h. climb_root (length ps₀) ps₀ i (parent₀ i h));
  }

-- no members
pub forest_none : (ps ss : List ℕ) → Forest 0 ps ss
unfolding sum tabulate
forest_none ps ss = record {
  few = omega arith;
  long = omega arith;
  sized = omega arith;
  below = λ i h. absurd (omega (arith, h));
  some = λ i h. absurd (omega (arith, h));
  cap = λ i h. absurd (omega (arith, h));
  grows = λ i h o. absurd (omega (arith, h));
  all = refl;
}

-- ---- a join
pub rooted_by : (P : Trees → Type 0) (ps ss : List ℕ) (a b : ℕ) → (a ≡ b → P (record { parents = ps; sizes = ss }))
    → ((a ≡ b → ⊥) → get_or ss a 0 ≤ get_or ss b 0 → P (under ps ss b a)) → ((a ≡ b → ⊥) → get_or ss b 0 ≤ get_or ss a 0 → P (under ps ss a b))
    → P (rooted ps ss a b)
rooted_by P ps ss a b p q r =
    ⊎_elim
    (λ e. let o = eqb-true a b e in rw (rooted_one ps ss a b o) (p o))
    (λ e. let o = eqb-false a b e in
    ⊎_elim
    (λ t. let l = ltb-true (get_or ss a 0) (get_or ss b 0) t in rw (rooted_less ps ss a b o l) (q o (omega arith)))
    (λ t. let l = ltb-false (get_or ss a 0) (get_or ss b 0) t in rw (rooted_more ps ss a b o l) (r o l))
    (cases (ltb (get_or ss a 0) (get_or ss b 0))))
    (cases (eqb a b))

module _ (n : ℕ) (L : List Link) (ps ss : List ℕ) (g : Grouped n L ps ss) (i j : ℕ) (hi : i < n) (hj : j < n) where
  -- the root of q goes under the root of p
  merges_under : (p q : ℕ) → p < n → q < n → (root_of ps p ≡ root_of ps q → ⊥) → get_or ss (root_of ps q) 0 ≤ get_or ss (root_of ps p) 0
      → Forest n (under ps ss (root_of ps p) (root_of ps q)).parents (under ps ss (root_of ps p) (root_of ps q)).sizes
      × Merges n (root_of ps) (root_of (under ps ss (root_of ps p) (root_of ps q)).parents) p q
  merges_under p q hp hq ne le =
      let f = g.forest in
      let a = root_of ps p in
      let b = root_of ps q in
      let ra = root_top n ps ss f p hp in
      let rb = root_top n ps ss f q hq in
      let bb = root_below n ps ss f q hq in
      let f' = forest_under n ps ss f a b (root_below n ps ss f p hp) bb ra rb ne le in
      let ps' = set ps b a in
      let ss' = set ss a (get_or ss a 0 + get_or ss b 0) in (
        f',
        merges_renamed n (root_of ps) (root_of ps') p q hp hq
            (λ x h. root_moved ps a b (omega (arith, f.long)) ra rb ne x (root_top n ps ss f x h) (root_top n ps' ss' f' x h)),
      )

  pub grouped_join : Grouped n (L ++ (record { a = i; b = j } ∷ [])) (joined ps ss i j).parents (joined ps ss i j).sizes
  grouped_join =
      rooted_by (Stands n (L ++ (k ∷ []))) ps ss (root_of ps i) (root_of ps j)
      (λ e. record { forest = g.forest; means = next (root_of ps) (merges_none n (root_of ps) i j e) })
      (λ ne le. let r = merges_under j i hj hi (λ e. ne (sym e)) le in
      record { forest = r.0; means = next (root_of (set ps (root_of ps i) (root_of ps j))) (merges_sym n (root_of ps) (root_of (set ps (root_of ps i) (root_of ps j))) j i r.1) })
      (λ ne le. let r = merges_under i j hi hj ne le in
      record { forest = r.0; means = next (root_of (set ps (root_of ps j) (root_of ps i))) r.1 })
    where
      k : Link
      k = record { a = i; b = j }

      next : (f' : ℕ → ℕ) → Merges n (root_of ps) f' i j → Means n (L ++ (k ∷ [])) f'
      next f' r = means_next n L (root_of ps) f' k hi hj g.means r

  -- equal roots exactly if linked, exactly if in the same group
  pub roots_linked : root_of ps i ≡ root_of ps j → Linked L i j
  roots_linked e = g.means.linked i j hi hj e

  pub linked_roots : Linked L i j → root_of ps i ≡ root_of ps j
  linked_roots p = g.means.same i j hi hj p

  pub roots_same : root_of ps i ≡ root_of ps j → same_group n L i j ≡ true
  roots_same e = linked_same_group n L g.means.inside i j hi hj (roots_linked e)

  pub same_roots : same_group n L i j ≡ true → root_of ps i ≡ root_of ps j
  same_roots e = linked_roots (same_linked n L g.means.inside i j hi hj e)

  pub same_is : eqb (root_of ps i) (root_of ps j) ≡ same_group n L i j
  same_is =
      ⊎_elim
      (λ (e : same_group n L i j ≡ true). eq-eqb (root_of ps i) (root_of ps j) (same_roots e) ∙ sym e)
      (λ (e : same_group n L i j ≡ false). ne_eqb (root_of ps i) (root_of ps j) (λ o. true≢false (sym (roots_same o) ∙ e)) ∙ sym e)
      (cases (same_group n L i j))

pub grouped_all : (n : ℕ) (L M : List Link) (t : Trees) → Grouped n L t.parents t.sizes → Inside n M
    → Grouped n (L ++ M) (joined_all t M).parents (joined_all t M).sizes
unfolding joined_all
grouped_all n L [] t g i = rw (append-nil L) g
grouped_all n L (k ∷ M) t g i =
    let h = i k (Memᴰ.head refl) in
    rw (append_assoc L (k ∷ []) M) at
    (grouped_all n (L ++ (k ∷ [])) M (joined t.parents t.sizes k.a k.b)
    (grouped_join n L t.parents t.sizes g k.a k.b h.0 h.1)
    (λ l m. i l (Memᴰ.tail m)))

pub inside_links : (n : ℕ) (xs ys : List ℕ) → ((x : ℕ) → Memᴰ x xs → x < n) → ((y : ℕ) → Memᴰ y ys → y < n) → Inside n (links xs ys)
unfolding links
inside_links n [] ys hx hy l m = absurd (Memᴰ.not-nil m)
inside_links n (x ∷ xs) [] hx hy l m = absurd (Memᴰ.not-nil m)
inside_links n (x ∷ xs) (y ∷ ys) hx hy l m =
    let rest = inside_links n xs ys (λ z o. hx z (Memᴰ.tail o)) (λ z o. hy z (Memᴰ.tail o)) l in
    ⊎_elim (λ (e : l ≡ record { a = x; b = y }). rw e (hx x (Memᴰ.head refl), hy y (Memᴰ.head refl))) rest (Memᴰ.cases_cons m)

pub grouped_climbs : (n : ℕ) (L : List Link) (ps ss : List ℕ) → Grouped n L ps ss → (i : ℕ) → i < n → Climbs ps i
grouped_climbs n L ps ss g i h = climbs n ps ss g.forest i h

-- the same, of the lists that `start`, `join` and `join_all` ensure
pub grouped_begin : (n : ℕ) (ps ss : List ℕ) {ps' ss' : List ℕ} → n < 65536 → (ps' ≡ (started n ps ss).parents) × (ss' ≡ (started n ps ss).sizes)
    → Grouped n [] ps' ss'
grouped_begin n ps ss few e = rw (e.0, e.1) (grouped_start n ps ss few)

pub grouped_more : (n : ℕ) {L L' : List Link} {ps ss ps' ss' : List ℕ} (M : List Link) → Grouped n L ps ss → Inside n M → L' ≡ L ++ M
    → (ps' ≡ (joined_all (trees ps ss) M).parents) × (ss' ≡ (joined_all (trees ps ss) M).sizes) → Grouped n L' ps' ss'
grouped_more n {L} {L'} {ps} {ss} M g i e o = rw (e, o.0, o.1) (grouped_all n L M (trees ps ss) g i)

pub grouped_links : (n : ℕ) {L L' : List Link} {ps ss ps' ss' : List ℕ} (xs ys : List ℕ) → Grouped n L ps ss
    → ((x : ℕ) → Memᴰ x xs → x < n) → ((y : ℕ) → Memᴰ y ys → y < n) → L' ≡ L ++ links xs ys
    → (ps' ≡ (joined_all (trees ps ss) (links xs ys)).parents) × (ss' ≡ (joined_all (trees ps ss) (links xs ys)).sizes) → Grouped n L' ps' ss'
grouped_links n xs ys g hx hy e o = grouped_more n (links xs ys) g (inside_links n xs ys hx hy) e o
