-- Laws of the definitions on lists, for lists of any length.
use Prim.Native.Nat.{◌+◌, ◌-◌, ◌<◌, ◌≤◌, suc, zero, ℕ}
use mathlib.Core.Bool.{Bool, ◌&&◌, ◌||◌, false, or_assoc, true}
use mathlib.Core.List.{List, [], ◌++◌, ◌∷◌, append_assoc, map}
use mathlib.Core.Logic.{◌⊎◌, inl, inr, ⊎_elim}
use mathlib.Core.Path.{◌∙◌, ◌≡◌, ap, refl, sym}
use native.Mathlib.Numerals.{add-one}
use native.Mathlib.Omega.{arith}
use lib.Dec.{eqb}
use lib.ListN.{drop, get_or, length, length-append, length-drop, replicate, set, take}
use lib.Seq.{drop-cons, set_at}
use borrow.Author.Tests.{eq-eqb, eqb-false, eqb-true, ne_eqb}
use Rattle.lists.specs.Lists.{flat, has, padded, split, sum, tabulate}

-- by cases on a test
pub cases : (b : Bool) → (b ≡ true) ⊎ (b ≡ false)
cases true = inl refl
cases false = inr refl

pub left_true : (a b : Bool) → (a && b) ≡ true → a ≡ true
left_true true b h = refl
left_true false b h = h

pub right_true : (a b : Bool) → (a && b) ≡ true → b ≡ true
right_true true b h = h
right_true false b h = cc

pub eqb_sym : (x y : ℕ) → eqb x y ≡ eqb y x
eqb_sym x y =
    ⊎_elim (λ h. h ∙ sym (eq-eqb y x (sym (eqb-true x y h)))) (λ h. h ∙ sym (ne_eqb y x (λ e. eqb-false x y h (sym e)))) (cases (eqb x y))

pub has_append : (x : ℕ) (xs ys : List ℕ) → has x (xs ++ ys) ≡ (has x xs || has x ys)
unfolding has
has_append x [] ys = refl
has_append x (a ∷ xs) ys = rw (has_append x xs ys, or_assoc)

pub sum_append : (xs ys : List ℕ) → sum (xs ++ ys) ≡ sum xs + sum ys
unfolding sum
sum_append [] ys = omega arith
sum_append (x ∷ xs) ys = omega (arith, sum_append xs ys)

-- the part of a sum that a run of the list has is no more than the whole
pub sum_take_drop : (i : ℕ) (xs : List ℕ) → sum (take i xs) + sum (drop i xs) ≡ sum xs
unfolding sum
sum_take_drop zero xs = omega arith
sum_take_drop (suc i) [] = refl
sum_take_drop (suc i) (x ∷ xs) = omega (arith, sum_take_drop i xs)

module _ {ℓ} {A : Type ℓ} where
  pub length_tabulate : (n : ℕ) (f : ℕ → A) → length (tabulate n f) ≡ n
  unfolding tabulate
  length_tabulate zero f = refl
  length_tabulate (suc n) f = ap suc (length_tabulate n (λ (k : ℕ). f (suc k)))

  -- one more at the end
  pub tabulate_suc : (n : ℕ) (f : ℕ → A) → tabulate (suc n) f ≡ tabulate n f ++ (f n ∷ [])
  unfolding tabulate
  tabulate_suc zero f = refl
  tabulate_suc (suc n) f = ap (λ (r : List A). f 0 ∷ r) (tabulate_suc n (λ (k : ℕ). f (suc k)))

  pub flat_append : (xs ys : List (List A)) → flat (xs ++ ys) ≡ flat xs ++ flat ys
  unfolding flat
  flat_append [] ys = refl
  flat_append (x ∷ xs) ys = rw (flat_append xs ys, append_assoc)

  pub length_split : (ns : List ℕ) (xs : List A) → length (split ns xs) ≡ length ns
  unfolding split
  length_split [] xs = refl
  length_split (n ∷ ns) xs = ap suc (length_split ns (drop n xs))

  -- a loop that writes f 0, f 1, .. from the front of a list: what it holds after i turns
  pub record Filling (f : ℕ → A) (out₀ out : List A) (i : ℕ) : Type ℓ where
    pub low : i ≤ length out₀
    pub is : out ≡ tabulate i f ++ drop i out₀

  pub filling_start : (f : ℕ → A) (out : List A) → Filling f out out 0
  unfolding tabulate
  filling_start f out = record { low = omega arith; is = refl }

  pub filling_long : (f : ℕ → A) (out₀ out : List A) (i : ℕ) → Filling f out₀ out i → length out ≡ length out₀
  filling_long f out₀ out i s =
      ap length s.is ∙ omega (arith, s.low, length-append (tabulate i f) (drop i out₀), length_tabulate i f, length-drop i out₀)

  pub filling_next : (f : ℕ → A) (d : A) (out₀ out : List A) (i : ℕ) (v : A) → Filling f out₀ out i → i < length out₀ → v ≡ f i
      → Filling f out₀ (set out i v) (i + 1)
  filling_next f d out₀ out i v s h e = record {
    low = omega arith;
    is = rw (s.is, e, drop-cons out₀ i d h, set_at (tabulate i f) (get_or out₀ i d) (drop (suc i) out₀) (f i) i (length_tabulate i f), add-one, tabulate_suc i f, append_assoc);
  }

  pub drop_replicate : (n m : ℕ) (d : A) → drop n (replicate m d) ≡ replicate (m - n) d
  drop_replicate zero m d = let e : m - 0 ≡ m = omega arith in rw e
  drop_replicate (suc n) zero d = let e : 0 - suc n ≡ 0 = omega arith in rw e
  drop_replicate (suc n) (suc m) d = let e : suc m - suc n ≡ m - n = omega arith in rw e (drop_replicate n m d)

  -- a table written over a list of d's
  pub padded_rest : (n m : ℕ) (f : ℕ → A) (d : A) → tabulate n f ++ drop n (replicate m d) ≡ padded m d (tabulate n f)
  padded_rest n m f d = rw (drop_replicate n m d, length_tabulate n f)

  -- the rest of a list of d's stays
  pub filling_padded : (f : ℕ → A) (d : A) (m : ℕ) (out : List A) (i : ℕ) → Filling f (replicate m d) out i → out ≡ padded m d (tabulate i f)
  filling_padded f d m out i s = s.is ∙ padded_rest i m f d

  -- a list is the table of its elements
  pub tabulate_get_d : (xs : List A) (d : A) → tabulate (length xs) (λ (k : ℕ). get_or xs k d) ≡ xs
  unfolding tabulate
  tabulate_get_d [] d = refl
  tabulate_get_d (x ∷ xs) d = ap (λ (r : List A). x ∷ r) (tabulate_get_d xs d)

module _ {ℓ ℓ'} {A : Type ℓ} {B : Type ℓ'} where
  pub map_tabulate : (g : A → B) (n : ℕ) (f : ℕ → A) → map g (tabulate n f) ≡ tabulate n (λ (k : ℕ). g (f k))
  unfolding tabulate
  map_tabulate g zero f = refl
  map_tabulate g (suc n) f = ap (λ (r : List B). g (f 0) ∷ r) (map_tabulate g n (λ (k : ℕ). f (suc k)))

  -- g of the first i elements
  pub tabulate_map : (g : A → B) (d : A) (i : ℕ) (xs : List A) → i ≤ length xs → tabulate i (λ (k : ℕ). g (get_or xs k d)) ≡ take i (map g xs)
  unfolding tabulate
  tabulate_map g d zero xs h = refl
  tabulate_map g d (suc i) [] h = absurd (omega arith)
  tabulate_map g d (suc i) (x ∷ xs) h = ap (λ (r : List B). g x ∷ r) (tabulate_map g d i xs (omega arith))

-- one more number in a sum
pub sum_next : (ns : List ℕ) (i : ℕ) → sum (take (suc i) ns) ≡ sum (take i ns) + get_or ns i 0
unfolding sum
sum_next [] zero = refl
sum_next [] (suc i) = refl
sum_next (n ∷ ns) zero = omega arith
sum_next (n ∷ ns) (suc i) = omega (arith, sum_next ns i)

module _ {ℓ ℓ'} {A : Type ℓ} {B : Type ℓ'} (f : A → B) where
  pub map_take : (n : ℕ) (xs : List A) → map f (take n xs) ≡ take n (map f xs)
  map_take zero xs = refl
  map_take (suc n) [] = refl
  map_take (suc n) (x ∷ xs) = ap (λ (r : List B). f x ∷ r) (map_take n xs)
