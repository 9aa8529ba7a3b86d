-- Several joins: what they keep, and the loop that joins the groups of two lists' members, one by one.
use Prim.Native.Nat.{◌+◌, ◌<◌, ◌≤◌, suc, zero, ℕ}
use mathlib.Core.List.Memᴰ
use mathlib.Core.List.{List, [], ◌++◌, ◌∷◌, map}
use mathlib.Core.Path.{◌∙◌, ◌≡◌, ap, refl, sym}
use native.Mathlib.Nat.{le_of_suc-le-suc, not-suc-le-zero}
use native.Mathlib.Numerals.{add-one}
use native.Mathlib.Omega.{arith}
use lib.ListN.{drop, drop_of_length-le, get_or, length, length-set}
use lib.Seq.{drop-cons}
use Rattle.groups.proofs.Climbing.{root_below, root_top}
use Rattle.groups.proofs.Joining.{forest_under}
use Rattle.groups.proofs.Laws.{rooted_by}
use Rattle.groups.specs.Forest.{Forest, Trees, joined, joined_all, root_of, trees}
use Rattle.groups.specs.Groups.{Inside, Link, link, links}

module _ (n : ℕ) (ps ss : List ℕ) (f : Forest n ps ss) (i j : ℕ) (hi : i < n) (hj : j < n) where
  pub forest_join : Forest n (joined ps ss i j).parents (joined ps ss i j).sizes
  forest_join =
      let a = root_of ps i in
      let b = root_of ps j in
      let ha = root_below n ps ss f i hi in
      let hb = root_below n ps ss f j hj in
      let ra = root_top n ps ss f i hi in
      let rb = root_top n ps ss f j hj in
      rooted_by (λ (t : Trees). Forest n t.parents t.sizes) ps ss a b
      (λ e. f)
      (λ ne le. forest_under n ps ss f b a hb ha rb ra (λ e. ne (sym e)) le)
      (λ ne le. forest_under n ps ss f a b ha hb ra rb ne le)

pub joined_long : (ps ss : List ℕ) (i j : ℕ) → (length (joined ps ss i j).parents ≡ length ps) × (length (joined ps ss i j).sizes ≡ length ss)
joined_long ps ss i j =
    let a = root_of ps i in
    let b = root_of ps j in
    rooted_by (λ (t : Trees). (length t.parents ≡ length ps) × (length t.sizes ≡ length ss)) ps ss a b
    (λ e. (refl, refl))
    (λ ne le. (length-set ps a b, length-set ss b (get_or ss b 0 + get_or ss a 0)))
    (λ ne le. (length-set ps b a, length-set ss a (get_or ss a 0 + get_or ss b 0)))

-- ---- the trees after several links
pub forest_all : (n : ℕ) (t : Trees) (M : List Link) → Forest n t.parents t.sizes → Inside n M
    → Forest n (joined_all t M).parents (joined_all t M).sizes
unfolding joined_all
forest_all n t [] f i = f
forest_all n t (k ∷ M) f i =
    let h = i k (Memᴰ.head refl) in
    forest_all n (joined t.parents t.sizes k.a k.b) M (forest_join n t.parents t.sizes f k.a k.b h.0 h.1)
    (λ l m. i l (Memᴰ.tail m))

pub joined_all_long : (t : Trees) (M : List Link) → (length (joined_all t M).parents ≡ length t.parents) × (length (joined_all t M).sizes ≡ length t.sizes)
unfolding joined_all
joined_all_long t [] = (refl, refl)
joined_all_long t (k ∷ M) =
    let t' = joined t.parents t.sizes k.a k.b in
    let l = joined_long t.parents t.sizes k.a k.b in
    let r = joined_all_long t' M in
    (r.0 ∙ l.0, r.1 ∙ l.1)

pub joined_append : (t : Trees) (L M : List Link) → joined_all t (L ++ M) ≡ joined_all (joined_all t L) M
unfolding joined_all
joined_append t [] M = refl
joined_append t (k ∷ L) M = joined_append (joined t.parents t.sizes k.a k.b) L M

-- ---- the loop
links_next : (xs ys : List ℕ) (k : ℕ) → k < length xs → length ys ≡ length xs
    → links (drop k xs) (drop k ys) ≡ link (get_or xs k 0) (get_or ys k 0) ∷ links (drop (suc k) xs) (drop (suc k) ys)
unfolding links
links_next xs ys k h e = rw (drop-cons {A = ℕ} xs k 0 h, drop-cons {A = ℕ} ys k 0 (omega arith))

links_end : (xs ys : List ℕ) (k : ℕ) → length xs ≤ k → links (drop k xs) (drop k ys) ≡ []
unfolding links
links_end xs ys k h = rw (drop_of_length-le xs h)

-- the first k pairs are joined
pub record Joins (n : ℕ) (xs ys ps₀ ss₀ ps ss : List ℕ) (k : ℕ) : Type 0 where
  pub low : k ≤ length xs
  pub forest : Forest n ps ss
  pub parents_long : length ps ≡ length ps₀
  pub sizes_long : length ss ≡ length ss₀
  pub is : joined_all (trees ps₀ ss₀) (links xs ys) ≡ joined_all (trees ps ss) (links (drop k xs) (drop k ys))

pub joins_start : (n : ℕ) (xs ys ps ss : List ℕ) → Forest n ps ss → Joins n xs ys ps ss ps ss 0
joins_start n xs ys ps ss f = record { low = omega arith; forest = f; parents_long = refl; sizes_long = refl; is = refl }

abbrev pub Pairs : ℕ → List ℕ → List ℕ → Type 0
Pairs n xs ys = (length ys ≡ length xs) × ((k : ℕ) → k < length xs → (get_or xs k 0 < n) × (get_or ys k 0 < n))

module _ (n : ℕ) (xs ys ps₀ ss₀ ps ss : List ℕ) (k : ℕ) (p : Pairs n xs ys) (j : Joins n xs ys ps₀ ss₀ ps ss k) where
  pub joins_next : k < length xs → {ps' ss' : List ℕ}
      → (ps' ≡ (joined ps ss (get_or xs k 0) (get_or ys k 0)).parents) × (ss' ≡ (joined ps ss (get_or xs k 0) (get_or ys k 0)).sizes)
      → Joins n xs ys ps₀ ss₀ ps' ss' (k + 1)
  unfolding joined_all
  joins_next h o =
      let x = get_or xs k 0 in
      let y = get_or ys k 0 in
      let l = joined_long ps ss x y in
      rw (o.0, o.1, add-one k) record {
        low = omega arith;
        forest = forest_join n ps ss j.forest x y (p.1 k h).0 (p.1 k h).1;
        parents_long = l.0 ∙ j.parents_long;
        sizes_long = l.1 ∙ j.sizes_long;
        is = j.is ∙ ap (joined_all (trees ps ss)) (links_next xs ys k h p.0);
      }

  pub joins_end : length xs ≤ k → (ps ≡ (joined_all (trees ps₀ ss₀) (links xs ys)).parents) × (ss ≡ (joined_all (trees ps₀ ss₀) (links xs ys)).sizes)
  unfolding joined_all
  joins_end h =
      let e : joined_all (trees ps₀ ss₀) (links xs ys) ≡ trees ps ss = j.is ∙ ap (joined_all (trees ps ss)) (links_end xs ys k h) in
      (sym (ap (λ (t : Trees). t.parents) e), sym (ap (λ (t : Trees). t.sizes) e))

-- the trees after the links of two lists
pub forest_pairs : {n : ℕ} (xs ys ps ss : List ℕ) → Forest n ps ss → Pairs n xs ys
    → Forest n (joined_all (trees ps ss) (links xs ys)).parents (joined_all (trees ps ss) (links xs ys)).sizes
unfolding links joined_all
forest_pairs [] ys ps ss f p = f
forest_pairs (x ∷ xs) [] ps ss f p = f
forest_pairs {n} (x ∷ xs) (y ∷ ys) ps ss f p =
    let h = p.1 0 (omega arith) in
    forest_pairs xs ys (joined ps ss x y).parents (joined ps ss x y).sizes (forest_join n ps ss f x y h.0 h.1) (omega (arith, p.0), λ k l. p.1 (suc k) (omega (arith, l)))

-- what stands at a place of a column made from another
pub column_at : (g : ℕ → ℕ) (xs : List ℕ) (k : ℕ) → k < length xs → get_or (map g xs) k 0 ≡ g (get_or xs k 0)
column_at g [] k h = absurd (not-suc-le-zero h)
column_at g (x ∷ xs) zero h = refl
column_at g (x ∷ xs) (suc k) h = column_at g xs k (le_of_suc-le-suc h)
