-- Laws of lists: a test that every element passes, and a part of a part.
use Prim.Native.Nat.{◌+◌, ◌-◌, ◌<◌, ◌≤◌, suc, zero, ℕ}
use mathlib.Core.Bool.{Bool, false, not, true}
use mathlib.Core.List.{List, [], ◌∷◌, map}
use mathlib.Core.Logic.{⊎_elim}
use mathlib.Core.Path.{◌∙◌, ◌≡◌, ap, refl, sym}
use native.Mathlib.Omega.{arith}
use lib.Dec.{eqb, ltb}
use lib.ListN.{drop, get_or, length, length-drop, take}
use lib.Seq.{length-take-le}
use borrow.Author.Tests.{eqb-false, ltb-false, ltb-true, ne_eqb}
use Rattle.std.proofs.lemmas.Bool.Decides.{nat_tests}
use Rattle.std.specs.List.{list_all}
use Rattle.face_parts.specs.Parts.{lengths_at, uses_at}
use Rattle.lists.proofs.Alike.{no_dup_count}
use Rattle.lists.proofs.Count.{All, all_each, count_only_le}
use Rattle.lists.proofs.Laws.{cases, sum_next, sum_take_drop}
use Rattle.lists.proofs.Parts.{flat_split}
use Rattle.lists.proofs.Split.{get_d_split, split_run}
use Rattle.lists.specs.Lists.{count, flat, no_dup, only, split, sum}
use Rattle.wire.proofs.Laws.{length_points, points_below}
use Rattle.wire.specs.Named.{Named}
use Rattle.wire.specs.Wires.{points}

module _ {ℓ} {A : Type ℓ} where
  -- a part, as the code takes it
  pub part_to : (a z : ℕ) (xs : List A) → take (a + z - a) (drop a xs) ≡ take z (drop a xs)
  part_to a z xs = let e : a + z - a ≡ z = omega arith in rw e

  module _ (q : A → Bool) where
    count_le : (xs : List A) → count q xs ≤ length xs
    unfolding count
    count_le [] = omega arith
    count_le (x ∷ xs) =
        ⊎_elim
        (λ (e : q x ≡ true). rw e (omega (arith, count_le xs)))
        (λ (e : q x ≡ false). rw e (omega (arith, count_le xs)))
        (cases (q x))

    -- so many pass: each does
    pub all_pass : (xs : List A) → count q xs ≡ length xs → All (λ (x : A). q x ≡ true) xs
    unfolding count
    all_pass [] h = tt
    all_pass (x ∷ xs) h =
        ⊎_elim
        (λ (b : q x ≡ true). (b, all_pass xs (omega (arith, rw b at h))))
        (λ (b : q x ≡ false). absurd (omega (arith, rw b at h, count_le xs)))
        (cases (q x))

  pub split_lengths : (ns : List ℕ) (xs : List A) → sum ns ≤ length xs → map length (split ns xs) ≡ ns
  unfolding split sum
  split_lengths [] xs h = refl
  split_lengths (n ∷ ns) xs h = rw (length-take-le n xs (omega arith), split_lengths ns (drop n xs) (omega (arith, length-drop n xs)))

-- so many pass as there are: all do
module _ (q : ℕ → Bool) where
  pub all_counted : (xs : List ℕ) → list_all q xs ≡ eqb (count q xs) (length xs)
  unfolding count
  all_counted [] = refl
  all_counted (x ∷ xs) =
      ⊎_elim
      (λ (e : q x ≡ true). rw (e, all_counted xs) (grind (arith, nat_tests)))
      (λ (e : q x ≡ false). rw e (sym (ne_eqb (0 + count q xs) (suc (length xs)) (λ z. omega (arith, count_le q xs)))))
      (cases (q x))

-- ---- the wires of a face

module _ (counts lens uses : List ℕ) (f : ℕ) (here : f < length counts) (all_wires : sum counts ≡ length lens) (all_uses : sum lens ≡ length uses) where
  abbrev w : ℕ
  w = sum (take f counts)

  abbrev n : ℕ
  n = get_or counts f 0

  -- they are among the wires, their uses among the uses
  pub wires_inside : w + n ≤ length lens
  wires_inside = omega (arith, sum_next counts f, sum_take_drop (suc f) counts, all_wires)

  pub uses_inside : sum (take w lens) + sum (lengths_at counts f lens) ≤ length uses
  uses_inside = omega (arith, sum_take_drop w lens, sum_take_drop n (drop w lens), all_uses)

  pub lengths_long : length (lengths_at counts f lens) ≡ n
  lengths_long = length-take-le n (drop w lens) (omega (arith, length-drop w lens, wires_inside))

  pub uses_long : length (uses_at counts lens f uses) ≡ sum (lengths_at counts f lens)
  uses_long = length-take-le (sum (lengths_at counts f lens)) (drop (sum (take w lens)) uses) (omega (arith, length-drop (sum (take w lens)) uses, uses_inside))

  wires_are : get_or (split counts (split lens uses)) f [] ≡ split (lengths_at counts f lens) (uses_at counts lens f uses)
  wires_are = get_d_split counts (split lens uses) f ∙ split_run lens uses w n

  pub flat_is : flat (get_or (split counts (split lens uses)) f []) ≡ uses_at counts lens f uses
  flat_is = ap flat wires_are ∙ flat_split (lengths_at counts f lens) (uses_at counts lens f uses) (sym uses_long)

  pub lengths_are : map length (get_or (split counts (split lens uses)) f []) ≡ lengths_at counts f lens
  lengths_are = ap (map length) wires_are ∙ split_lengths (lengths_at counts f lens) (uses_at counts lens f uses) (omega (arith, uses_long))

-- ---- distinct numbers below n are n at most

module _ (n : ℕ) where
  abbrev others : ℕ → Bool
  others x = not (eqb n x)

  below_here : (x : ℕ) → x < suc n → eqb n x ≡ false → x < n
  below_here x h e =
      ⊎_elim
      (λ (l : ltb x n ≡ true). ltb-true x n l)
      (λ (l : ltb x n ≡ false). absurd (eqb-false n x e (omega (arith, h, ltb-false x n l))))
      (cases (ltb x n))

  only_below : (xs : List ℕ) → All (λ (x : ℕ). x < suc n) xs → All (λ (x : ℕ). x < n) (only others xs)
  unfolding only
  only_below [] h = tt
  only_below (x ∷ xs) h =
      let rest = only_below xs h.1 in
      ⊎_elim
      (λ (e : eqb n x ≡ true). rw e rest)
      (λ (e : eqb n x ≡ false). rw e (below_here x h.0 e, rest))
      (cases (eqb n x))

  -- without the number n
  length_others : (xs : List ℕ) → length xs ≡ count (eqb n) xs + length (only others xs)
  unfolding count only
  length_others [] = refl
  length_others (x ∷ xs) =
      ⊎_elim
      (λ (e : eqb n x ≡ true). rw e (omega (arith, length_others xs)))
      (λ (e : eqb n x ≡ false). rw e (omega (arith, length_others xs)))
      (cases (eqb n x))

few_distinct : (n : ℕ) (xs : List ℕ) → ((q : ℕ) → count (eqb q) xs ≤ 1) → All (λ (x : ℕ). x < n) xs → length xs ≤ n
few_distinct zero [] d h = omega arith
few_distinct zero (x ∷ xs) d h = absurd (omega (arith, h.0))
few_distinct (suc n) xs d h =
    omega (
      arith,
      length_others n xs,
      d n,
      few_distinct n (only (others n) xs) (λ q. omega (arith, count_only_le (eqb q) (others n) xs, d q)) (only_below n xs h),
    )

-- a wire that meets no point twice has 2,048 uses at most
pub simple_short : (fronts backs us : List ℕ) → Named fronts backs us → no_dup (points fronts backs us) ≡ true → length us ≤ 2048
simple_short fronts backs us named once =
    let ps = points fronts backs us in
    omega (
      arith,
      length_points fronts backs us,
      few_distinct 2048 ps (no_dup_count ps once) (all_each (λ (x : ℕ). x < 2048) 0 ps (points_below fronts backs us named)),
    )
