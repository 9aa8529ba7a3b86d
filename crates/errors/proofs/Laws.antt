-- Laws of checks in sequence.
use Prim.Native.Nat.{◌+◌, ◌<◌, ◌≤◌, suc, zero, ℕ}
use mathlib.Core.Bool.{Bool, false, true}
use mathlib.Core.List.{List, [], ◌++◌, ◌∷◌}
use mathlib.Core.Path.{◌∙◌, ◌≡◌, ap, refl}
use native.Mathlib.Numerals.{add-one}
use native.Mathlib.Omega.{arith}
use lib.ListN.{drop, drop_of_length-le, get_or, length, take}
use lib.Seq.{drop-cons, get_or-take, length-take-le}
use Rattle.errors.specs.Faults.{each, first}
use Rattle.std.specs.Prelude.{Result, Ok, Err}
use Rattle.std.specs.Result.{IsErrAnd}
use Rattle.std.proofs.lemmas.Result.{err_from_is_err_and}
use Rattle.errors.specs.declared.Refusal.{Refusal}
use Rattle.lists.specs.Lists.{unless}

pub accepted_none : (fs : List Refusal) → first fs ≡ Ok tt → fs ≡ []
accepted_none [] h = refl
accepted_none (f ∷ fs) h = cc

pub refused_first : (fs gs : List Refusal) (f : Refusal) → first fs ≡ Err f → first (fs ++ gs) ≡ Err f
refused_first [] gs f h = cc
refused_first (g ∷ fs) gs f h = h

-- what `?` hands on, as its conversion gives it
pub handed_on : {T E : Type 0} (r : Result T E) (e : E) → IsErrAnd r (λ d. d ≡ e) → r ≡ Err e
handed_on r e h = let d = err_from_is_err_and r h in d.1 ∙ ap Err d.2

-- checks one after the other: `?`
abbrev pub and_then : Result Unit Refusal → Result Unit Refusal → Result Unit Refusal
and_then (Ok x) next = next
and_then (Err f) next = Err f

pub first_append : (fs gs : List Refusal) → first (fs ++ gs) ≡ and_then (first fs) (first gs)
first_append [] gs = refl
first_append (f ∷ fs) gs = refl

pub passed_first : (fs gs : List Refusal) → first fs ≡ Ok tt → first (fs ++ gs) ≡ first gs
passed_first fs gs h = rw (accepted_none fs h)

module _ {ℓ} {A : Type ℓ} where
  pub none_left : (xs ys : List A) → xs ++ ys ≡ [] → xs ≡ []
  none_left [] ys h = refl
  none_left (x ∷ xs) ys h = cc

  pub none_right : (xs ys : List A) → xs ++ ys ≡ [] → ys ≡ []
  none_right [] ys h = h
  none_right (x ∷ xs) ys h = cc

  pub none_both : (xs ys : List A) → xs ≡ [] → ys ≡ [] → xs ++ ys ≡ []
  none_both xs ys e f = rw (e, f)

  pub unless_passes : (b : Bool) (a : A) → unless b a ≡ [] → b ≡ true
  unless_passes true a h = refl
  unless_passes false a h = cc

  pub unless_none : (b : Bool) (a : A) → b ≡ true → unless b a ≡ []
  unless_none b a e = rw e

module _ {ℓ} {A : Type ℓ} (f : ℕ → A → List Refusal) (d : A) where
  -- a loop over the records has passed the first i without a fault; the first record has number n
  pub record Passed (xs : List A) (n i : ℕ) : Type ℓ where
    pub low : i ≤ length xs
    pub rest : each f n xs ≡ each f (n + i) (drop i xs)

  pub passed_start : (xs : List A) (n : ℕ) → Passed xs n 0
  passed_start xs n = let e : n + 0 ≡ n = omega arith in record { low = omega arith; rest = rw e }

  -- record i is x and has number m
  module _ (xs : List A) (n i m : ℕ) (x : A) (s : Passed xs n i) (h : i < length xs) (is : get_or xs i d ≡ x) (e : m ≡ n + i) where
    rest_is : each f n xs ≡ f m x ++ each f (suc m) (drop (suc i) xs)
    unfolding each
    rest_is = s.rest ∙ rw (drop-cons xs i d h, is, e)

    pub passed_next : first (f m x) ≡ Ok tt → Passed xs n (i + 1)
    passed_next a =
        let z : n + suc i ≡ suc m = omega arith in
        record { low = omega arith; rest = rw (add-one, z) (rest_is ∙ rw (accepted_none (f m x) a)) }

    pub passed_stop : (r : Refusal) → first (f m x) ≡ Err r → first (each f n xs) ≡ Err r
    passed_stop r a = rw rest_is (refused_first (f m x) (each f (suc m) (drop (suc i) xs)) r a)

  pub passed_all : (xs : List A) (n i : ℕ) → Passed xs n i → length xs ≤ i → each f n xs ≡ []
  unfolding each
  passed_all xs n i s h = s.rest ∙ rw drop_of_length-le

  -- the same over the first `count` records of a longer list, numbered from 0
  module _ (xs : List A) (count : ℕ) (fit : count ≤ length xs) (i : ℕ) (s : Passed (take count xs) 0 i) where
    pub taken_next : i < count → first (f i (get_or xs i d)) ≡ Ok tt → Passed (take count xs) 0 (i + 1)
    taken_next h a = passed_next (take count xs) 0 i i (get_or xs i d) s (omega (arith, length-take-le count xs fit)) (get_or-take count xs i d h) (omega arith) a

    pub taken_stop : i < count → (r : Refusal) → first (f i (get_or xs i d)) ≡ Err r → first (each f 0 (take count xs)) ≡ Err r
    taken_stop h r a = passed_stop (take count xs) 0 i i (get_or xs i d) s (omega (arith, length-take-le count xs fit)) (get_or-take count xs i d h) (omega arith) r a

    pub taken_all : count ≤ i → each f 0 (take count xs) ≡ []
    taken_all h = passed_all (take count xs) 0 i s (omega (arith, length-take-le count xs fit))

  -- no record has a fault
  pub each_record : (i : ℕ) (xs : List A) → each f i xs ≡ [] → (k : ℕ) → k < length xs → f (i + k) (get_or xs k d) ≡ []
  unfolding each
  each_record i [] e k h = absurd (omega arith)
  each_record i (x ∷ xs) e zero h = let z : i + 0 ≡ i = omega arith in rw z (none_left (f i x) (each f (suc i) xs) e)
  each_record i (x ∷ xs) e (suc k) h =
      let z : i + suc k ≡ suc i + k = omega arith in
      rw z (each_record (suc i) xs (none_right (f i x) (each f (suc i) xs) e) k (omega arith))

  pub each_none : (i : ℕ) (xs : List A) → ((k : ℕ) → k < length xs → f (i + k) (get_or xs k d) ≡ []) → each f i xs ≡ []
  unfolding each
  each_none i [] e = refl
  each_none i (x ∷ xs) e =
      let z : i + 0 ≡ i = omega arith in
      let here : f i x ≡ [] = rw z at (e 0 (omega arith)) in
      let place : (k : ℕ) → i + suc k ≡ suc i + k = λ k. omega arith in
      none_both (f i x) (each f (suc i) xs) here (each_none (suc i) xs (λ k h. rw (place k) at (e (suc k) (omega arith))))
