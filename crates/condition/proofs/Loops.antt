-- The loops: the uses of a part; the edges of the tally.
use Prim.Native.Nat.{◌%◌, ◌*◌, ◌+◌, ◌-◌, ◌/◌, ◌<◌, ◌≤◌, min, suc, zero, ℕ}
use mathlib.Core.List.{List, [], ◌++◌, ◌∷◌}
use mathlib.Core.Path.{◌∙◌, ◌≡◌, ap, refl, sym}
use native.Mathlib.Numerals.{add-one}
use native.Mathlib.Omega.{arith}
use lib.ListN.{drop, drop_of_length-le, get_or, length, length-drop, length-replicate, length-take, replicate, set, take, take-append-drop}
use lib.Seq.{drop-cons, drop-drop, take_all}
use Rattle.condition.proofs.Least.{least_add, least_alike, least_next}
use Rattle.condition.specs.Tallies.{condition_in, digit, inserted, inserted_all, least, odds_in, state_of}
use Rattle.condition.specs.declared.Tally.{Tally}
use Rattle.std.proofs.lemmas.List.{get_or-drop, get_or-take}
use Rattle.edge.specs.Below.{EdgesBelow}
use Rattle.std.specs.Simd.{first_chunks}
use Rattle.lists.proofs.Laws.{Filling, filling_next, filling_padded, filling_start}

pub inserted_append : (t : Tally) (us vs : List ℕ) → inserted_all t (us ++ vs) ≡ inserted_all (inserted_all t us) vs
unfolding inserted_all
inserted_append t [] vs = refl
inserted_append t (u ∷ us) vs = inserted_append (inserted t u) us vs

four_at : (k i : ℕ) (xs : List ℕ) → i < k → get_or (first_chunks 4 k xs) i [] ≡ take 4 (drop (4 * i) xs)
four_at zero i xs h = absurd (omega arith)
four_at (suc k) zero xs h = refl
four_at (suc k) (suc i) xs h =
    let e : 4 + 4 * i ≡ 4 * suc i = omega arith in
    four_at k i (drop 4 xs) (omega arith) ∙ ap (take 4) (drop-drop (4 * i) 4 xs ∙ ap (λ n. drop n xs) e)

-- the fours of a part
module _ (part : List ℕ) (fours : List (List ℕ)) (i : ℕ) (front : fours ≡ first_chunks 4 (length part / 4) part) (long : length fours ≡ length part / 4) (here : i < length fours) where
  pub four_is : get_or fours i [] ≡ take 4 (drop (4 * i) part)
  four_is = rw front (four_at (length part / 4) i part (omega arith))

  four_long : length (get_or fours i []) ≡ 4
  four_long = omega (arith, ap length four_is, length-take 4 (drop (4 * i) part), length-drop (4 * i) part)

  pub four_below : EdgesBelow 1024 part → EdgesBelow 1024 (get_or fours i [])
  four_below below j h =
      let h' : j < 4 = omega (arith, four_long) in
      let e : get_or (get_or fours i []) j 0 ≡ get_or part (4 * i + j) 0 = rw (four_is, get_or-take 4 (drop (4 * i) part) j 0 h') (get_or-drop (4 * i) part j 0) in
      rw e (below (4 * i + j) (omega arith))

module _ (part : List ℕ) where
  from_on : (i k : ℕ) → i < length part → k ≡ i + 1 → drop i part ≡ get_or part i 0 ∷ drop k part
  from_on i k l e = rw (e, add-one i) (drop-cons {A = ℕ} part i 0 l)

  -- the next use, and the next four
  next_one : (t : Tally) (i : ℕ) → i < length part → inserted_all t (take 1 (drop i part)) ≡ inserted t (get_or part i 0)
  unfolding inserted_all
  next_one t i l = rw (from_on i (i + 1) l refl)

  next_four : (t a b c d : Tally) (i : ℕ) → i + 4 ≤ length part → a ≡ inserted t (get_or part i 0) → b ≡ inserted a (get_or part (i + 1) 0) → c ≡ inserted b (get_or part (i + 2) 0)
      → d ≡ inserted c (get_or part (i + 3) 0) → d ≡ inserted_all t (take 4 (drop i part))
  unfolding inserted_all
  next_four t a b c d i l p q r s =
      rw (s, r, q, p, from_on i (i + 1) (omega arith) refl, from_on (i + 1) (i + 2) (omega arith) (omega arith), from_on (i + 2) (i + 3) (omega arith) (omega arith), from_on (i + 3) (i + 4) (omega arith) (omega arith))

  pub all_four : (t a b c d : Tally) → length part ≡ 4 → a ≡ inserted t (get_or part 0 0) → b ≡ inserted a (get_or part 1 0) → c ≡ inserted b (get_or part 2 0)
      → d ≡ inserted c (get_or part 3 0) → d ≡ inserted_all t part
  all_four t a b c d l p q r s = next_four t a b c d 0 (omega (arith, l)) p q r s ∙ ap (inserted_all t) (take_all 4 part (omega (arith, l)))

  -- the tally t₀ after the part is the tally t after the uses from place i on
  pub record Inserting (t₀ t : Tally) (i : ℕ) : Type 0 where
    pub low : i ≤ length part
    pub same : inserted_all t₀ part ≡ inserted_all t (drop i part)

  pub inserting_start : (t : Tally) → Inserting t t 0
  inserting_start t = record { low = omega arith; same = refl }

  module _ (t₀ t : Tally) (i : ℕ) (v : Inserting t₀ t i) where
    inserting_on : (n : ℕ) → i + n ≤ length part → (r : Tally) → r ≡ inserted_all t (take n (drop i part)) → Inserting t₀ r (i + n)
    inserting_on n l r e = record {
      low = l;
      same =
          v.same
          ∙ ap (inserted_all t) (sym (take-append-drop n (drop i part)))
          ∙ inserted_append t (take n (drop i part)) (drop n (drop i part))
          ∙ rw (drop-drop n i part, ← e);
    }

    pub inserting_one : i < length part → (r : Tally) → r ≡ inserted t (get_or part i 0) → Inserting t₀ r (i + 1)
    inserting_one l r e = inserting_on 1 (omega arith) r (e ∙ sym (next_one t i l))

    pub inserting_four : i + 4 ≤ length part → (r : Tally) → r ≡ inserted_all t (take 4 (drop i part)) → Inserting t₀ r (i + 4)
    inserting_four l r e = inserting_on 4 l r e

    pub inserting_end : length part ≤ i → t ≡ inserted_all t₀ part
    unfolding inserted_all
    inserting_end l = sym (v.same ∙ rw (drop_of_length-le part l))

module _ (t : Tally) (n : ℕ) where
  -- what the edges before e make of the condition
  pub record Joining (worst e : ℕ) : Type 0 where
    pub low : e ≤ n
    pub so_far : worst ≡ least e (λ (k : ℕ). 3 - state_of t k % 2)

  pub joining_start : Joining 3 0
  unfolding least
  joining_start = record { low = omega arith; so_far = refl }

  module _ (worst e : ℕ) (v : Joining worst e) where
    pub joining_next : e < n → (s made r : ℕ) → s ≡ state_of t e → made ≡ 3 - s % 2 → r ≡ min worst made → Joining r (e + 1)
    joining_next l s made r p q j = record {
      low = omega arith;
      so_far = least_next (λ (k : ℕ). 3 - state_of t k % 2) e worst made r v.so_far (q ∙ ap (λ (k : ℕ). 3 - k % 2) p) j;
    }

    -- the four edges of byte b
    pub joining_four : (b : ℕ) → e ≡ 4 * b → b < n / 4 → (made r : ℕ) → made ≡ least 4 (λ (d : ℕ). 3 - digit (get_or (take (n / 4) t.states) b 0) d % 2)
        → r ≡ min worst made → Joining r (4 * (b + 1))
    joining_four b first l made r q j =
        let f : ℕ → ℕ = λ (k : ℕ). 3 - state_of t k % 2 in
        let same =
        least_alike (λ (d : ℕ). 3 - digit (get_or t.states b 0) d % 2) (λ (d : ℕ). f (e + d)) 4
        (λ d m. let byte : (e + d) / 4 ≡ b = omega arith in let place : (e + d) % 4 ≡ d = omega arith in rw (byte, place)) in
        let after : 4 * (b + 1) ≡ e + 4 = omega arith in
        rw after record { low = omega (arith, v.low); so_far = omega (arith, j, v.so_far, rw (get_or-take (n / 4) t.states b 0 l) at q ∙ same, least_add f e 4) }

    pub joining_all : n ≤ e → (r : ℕ) → r ≡ min t.worst worst → r ≡ condition_in t n
    joining_all h r j = let p : n ≡ e = omega (arith, v.low) in rw (p, ← v.so_far) j

  -- the edges before e are written
  pub record Writing (out : List ℕ) (e : ℕ) : Type 0 where
    pub low : e ≤ n
    pub filling : Filling (λ (k : ℕ). 16 * (state_of t k % 2)) (replicate 1024 0) out e

  pub writing_start : Writing (replicate 1024 0) 0
  writing_start = record { low = omega arith; filling = filling_start (λ (k : ℕ). 16 * (state_of t k % 2)) (replicate 1024 0) }

  module _ (out : List ℕ) (e : ℕ) (v : Writing out e) where
    pub writing_next : e < n → n ≤ 1024 → (s : ℕ) → s ≡ state_of t e → Writing (set out e (16 * (s % 2))) (e + 1)
    writing_next l room s p = record {
      low = omega arith;
      filling =
          filling_next (λ (k : ℕ). 16 * (state_of t k % 2)) 0 (replicate 1024 0) out e (16 * (s % 2)) v.filling (omega (arith, length-replicate {A = ℕ} 1024 0)) (ap (λ (k : ℕ). 16 * (k % 2)) p);
    }

    pub writing_all : n ≤ e → out ≡ odds_in t n
    writing_all h =
        let p : n ≡ e = omega (arith, v.low) in
        rw p (filling_padded (λ (k : ℕ). 16 * (state_of t k % 2)) 0 1024 out e v.filling)
