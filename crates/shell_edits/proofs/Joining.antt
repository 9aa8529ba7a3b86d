-- Laws of a wire in which a use and the next give way to one use: it stays closed and simple, and meets no other points.
use Prim.Native.Nat.{◌+◌, ◌-◌, ◌<◌, ◌≤◌, suc, zero, ℕ}
use mathlib.Core.Bool.{Bool, ◌&&◌, false, true, true≢false}
use mathlib.Core.List.{List, [], ◌++◌, ◌∷◌, map}
use mathlib.Core.Logic.{⊎_elim}
use mathlib.Core.Path.{◌∙◌, ◌≡◌, ap, refl, sym}
use native.Mathlib.Omega.{arith}
use lib.Dec.{eqb, ltb}
use lib.ListN.{get_or-append, drop, get_or, length, length-append, take}
use lib.Seq.{drop-cons, split_at}
use borrow.Author.Tests.{eqb-false, eqb-true, ltb-false, ltb-true}
use Rattle.edge.specs.Uses.{back_of, front_of}
use Rattle.lists.proofs.Alike.{bit_one, count_no_dup, no_dup_count}
use Rattle.lists.proofs.Count.{All, all_append, all_drop, all_take, bit, count_append}
use Rattle.lists.proofs.Laws.{cases, left_true, right_true}
use Rattle.lists.specs.Lists.{count, has, no_dup, pick, rotated}
use Rattle.shell.proofs.Shown.{closed_ends, ends_closed, length_rotated, map_rotated}
use Rattle.wire.proofs.Laws.{Sound}
use Rattle.wire_swaps.specs.Swaps.{swap_pair, swap_subwire}
use Rattle.wire.specs.Wires.{closed, points, runs}

-- every number stands in the first list at most as often as in the second
abbrev pub Within : List ℕ → List ℕ → Type 0
Within ps qs = (x : ℕ) → count (eqb x) ps ≤ count (eqb x) qs

pub has_some : (x : ℕ) (xs : List ℕ) → has x xs ≡ true → 0 < count (eqb x) xs
unfolding count has
has_some x [] h = absurd (true≢false (sym h))
has_some x (y ∷ ys) h =
    ⊎_elim
    (λ (e : eqb x y ≡ true). rw e (omega arith))
    (λ (e : eqb x y ≡ false). let f : has x ys ≡ true = rw e at h in rw e (omega (arith, has_some x ys f)))
    (cases (eqb x y))

pub some_has : (x : ℕ) (xs : List ℕ) → 0 < count (eqb x) xs → has x xs ≡ true
unfolding count has
some_has x [] h = absurd (omega arith)
some_has x (y ∷ ys) h =
    ⊎_elim
    (λ (e : eqb x y ≡ true). rw e)
    (λ (e : eqb x y ≡ false). let f : 0 < 0 + count (eqb x) ys = rw e at h in rw e (some_has x ys (omega arith)))
    (cases (eqb x y))

pub no_dup_within : (ps ps' : List ℕ) → no_dup ps ≡ true → Within ps' ps → no_dup ps' ≡ true
no_dup_within ps ps' d w = count_no_dup ps' (λ x. omega (arith, w x, no_dup_count ps d x))

pub count_rotated : (q : ℕ → Bool) (xs : List ℕ) → count q (rotated xs) ≡ count q xs
unfolding count
count_rotated q [] = refl
count_rotated q (x ∷ xs) = omega (arith, count_append q xs (x ∷ []))

module _ (fronts backs : List ℕ) where
  abbrev front : ℕ → ℕ
  front = front_of fronts backs

  abbrev back : ℕ → ℕ
  back = back_of fronts backs

  pub closed_rotated : (us : List ℕ) → closed fronts backs us ≡ true → closed fronts backs (rotated us) ≡ true
  closed_rotated us h = ends_closed fronts backs (rotated us) (map_rotated back us ∙ ap rotated (closed_ends fronts backs us h ∙ sym (map_rotated front us)))

  both_true : (a b : Bool) → a ≡ true → b ≡ true → (a && b) ≡ true
  both_true a b e f = rw (e, f)

  -- the uses u and v give way to the use n, which runs from where u begins to where v ends
  module _ (u v n : ℕ) (begins : front n ≡ front u) (ends : back n ≡ back v) where
    runs_joined : (a : ℕ) (xs ys : List ℕ) (z : ℕ) → runs fronts backs a (xs ++ (u ∷ v ∷ ys)) z ≡ true → runs fronts backs a (xs ++ (n ∷ ys)) z ≡ true
    unfolding runs
    runs_joined a [] ys z h =
        let rest = right_true (eqb a (front u)) (eqb (back u) (front v) && runs fronts backs (back v) ys z) h in
        rw (begins, ends)
        (both_true (eqb a (front u)) (runs fronts backs (back v) ys z)
        (left_true (eqb a (front u)) (eqb (back u) (front v) && runs fronts backs (back v) ys z) h)
        (right_true (eqb (back u) (front v)) (runs fronts backs (back v) ys z) rest))
    runs_joined a (x ∷ xs) ys z h =
        both_true (eqb a (front x)) (runs fronts backs (back x) (xs ++ (n ∷ ys)) z)
        (left_true (eqb a (front x)) (runs fronts backs (back x) (xs ++ (u ∷ v ∷ ys)) z) h)
        (runs_joined (back x) xs ys z (right_true (eqb a (front x)) (runs fronts backs (back x) (xs ++ (u ∷ v ∷ ys)) z) h))

    closed_joined : (xs ys : List ℕ) → closed fronts backs (xs ++ (u ∷ v ∷ ys)) ≡ true → closed fronts backs (xs ++ (n ∷ ys)) ≡ true
    unfolding closed runs
    closed_joined [] ys h = rw (begins, ends) (right_true (eqb (back u) (front v)) (runs fronts backs (back v) ys (front u)) h)
    closed_joined (x ∷ xs) ys h = runs_joined (back x) xs ys (front x) h

    runs_meet : (a : ℕ) (xs ys : List ℕ) (z : ℕ) → runs fronts backs a (xs ++ (u ∷ v ∷ ys)) z ≡ true → back u ≡ front v
    unfolding runs
    runs_meet a [] ys z h =
        eqb-true (back u) (front v)
        (left_true (eqb (back u) (front v)) (runs fronts backs (back v) ys z) (right_true (eqb a (front u)) (eqb (back u) (front v) && runs fronts backs (back v) ys z) h))
    runs_meet a (x ∷ xs) ys z h = runs_meet (back x) xs ys z (right_true (eqb a (front x)) (runs fronts backs (back x) (xs ++ (u ∷ v ∷ ys)) z) h)

    closed_meet : (xs ys : List ℕ) → closed fronts backs (xs ++ (u ∷ v ∷ ys)) ≡ true → back u ≡ front v
    unfolding closed runs
    closed_meet [] ys h = eqb-true (back u) (front v) (left_true (eqb (back u) (front v)) (runs fronts backs (back v) ys (front u)) h)
    closed_meet (x ∷ xs) ys h = runs_meet (back x) xs ys (front x) h

    -- the points: v's front is gone
    points_joined : (x : ℕ) (xs ys : List ℕ)
        → count (eqb x) (points fronts backs (xs ++ (n ∷ ys))) + bit (eqb x (front v)) ≡ count (eqb x) (points fronts backs (xs ++ (u ∷ v ∷ ys)))
    unfolding count
    points_joined x [] ys = rw begins (omega arith)
    points_joined x (y ∷ xs) ys = omega (arith, points_joined x xs ys)

  -- a wire after a change that takes point p from it
  pub record Freed (p : ℕ) (us us' : List ℕ) : Type 0 where
    pub sound : Sound fronts backs us'
    pub shorter : length us' + 1 ≡ length us
    pub within : Within (points fronts backs us') (points fronts backs us)
    pub gone : count (eqb p) (map back us') ≡ 0

  freed_parts : (u v n : ℕ) → front n ≡ front u → back n ≡ back v → (xs ys : List ℕ) → Sound fronts backs (xs ++ (u ∷ v ∷ ys))
      → Freed (back u) (xs ++ (u ∷ v ∷ ys)) (xs ++ (n ∷ ys))
  freed_parts u v n begins ends xs ys s =
      let old = points fronts backs (xs ++ (u ∷ v ∷ ys)) in
      let new = points fronts backs (xs ++ (n ∷ ys)) in
      let less : Within new old = λ x. omega (arith, points_joined u v n begins ends x xs ys) in
      let loops = closed_joined u v n begins ends xs ys s.loops in
      let p = back u in
      let left : count (eqb p) new ≡ 0 =
      omega (arith, points_joined u v n begins ends p xs ys, bit_one p (front v) (closed_meet u v n begins ends xs ys s.loops), no_dup_count old s.once p) in
      record {
        sound = record { used = omega (arith, length-append xs (n ∷ ys)); loops = loops; once = no_dup_within old new s.once less };
        shorter = omega (arith, length-append xs (n ∷ ys), length-append xs (u ∷ v ∷ ys));
        within = less;
        gone = rw (closed_ends fronts backs (xs ++ (n ∷ ys)) loops) (count_rotated (eqb p) new ∙ left);
      }

  -- a wire changed at two places that stand next to each other
  freed_whole : (us : List ℕ) (u v n : ℕ) → front n ≡ front u → back n ≡ back v → (xs ys : List ℕ) → us ≡ xs ++ (u ∷ v ∷ ys) → Sound fronts backs us
      → Freed (back u) us (xs ++ (n ∷ ys))
  freed_whole us u v n begins ends xs ys e s = rw e (freed_parts u v n begins ends xs ys (rw e at s))

  freed_pair : (us : List ℕ) (j n : ℕ) → Sound fronts backs us → suc j < length us → front n ≡ front (get_or us j 0) → back n ≡ back (get_or us (suc j) 0)
      → Freed (back (get_or us j 0)) us (swap_pair us j n)
  freed_pair us j n s h begins ends =
      let z : j + 2 ≡ suc (suc j) = omega arith in
      let parts : us ≡ take j us ++ (get_or us j 0 ∷ get_or us (suc j) 0 ∷ drop (suc (suc j)) us) =
      split_at us j 0 (omega arith) ∙ ap (λ (r : List ℕ). take j us ++ (get_or us j 0 ∷ r)) (drop-cons us (suc j) 0 h) in
      rw z (freed_whole us (get_or us j 0) (get_or us (suc j) 0) n begins ends (take j us) (drop (suc (suc j)) us) parts s)

  sound_rotated : (us : List ℕ) → Sound fronts backs us → Sound fronts backs (rotated us)
  sound_rotated us s = record {
    used = omega (arith, s.used, length_rotated us);
    loops = closed_rotated us s.loops;
    once = rw (map_rotated front us) (no_dup_within (points fronts backs us) (rotated (points fronts backs us)) s.once
        (λ x. omega (arith, count_rotated (eqb x) (points fronts backs us))));
  }

  freed_rotated : (p : ℕ) (us us' : List ℕ) → Freed p (rotated us) us' → Freed p us us'
  freed_rotated p us us' f = record {
    sound = f.sound;
    shorter = f.shorter ∙ length_rotated us;
    within = λ x. omega (arith, f.within x, ap (count (eqb x)) (map_rotated front us), count_rotated (eqb x) (points fronts backs us));
    gone = f.gone;
  }

  next_inside : (us : List ℕ) (k : ℕ) → suc k < length us → get_or (rotated us) k 0 ≡ get_or us (suc k) 0
  next_inside [] k h = refl
  next_inside (x ∷ xs) k h = get_or-append xs (x ∷ []) 0 k (omega arith)

  -- no wire of one use is closed
  not_alone : (us : List ℕ) → All (λ (u : ℕ). eqb (front u) (back u) ≡ false) us → closed fronts backs us ≡ true → length us ≡ 1 → ⊥
  unfolding closed runs
  not_alone [] a c h = absurd (omega arith)
  not_alone (x ∷ []) a c h = eqb-false (front x) (back x) a.0 (sym (eqb-true (back x) (front x) c))
  not_alone (x ∷ y ∷ us) a c h = absurd (omega arith)

  -- the use at place k and the next, which for the last is the first, give way to n
  pub freed : (us : List ℕ) (k n : ℕ) → Sound fronts backs us → All (λ (u : ℕ). eqb (front u) (back u) ≡ false) us → k < length us
      → front n ≡ front (get_or us k 0) → back n ≡ back (get_or (rotated us) k 0) → Freed (back (get_or us k 0)) us (swap_subwire us k n)
  freed us k n s a h begins ends =
      ⊎_elim
      (λ (e : eqb (k + 1) (length us) ≡ true). rw e (last k h begins ends (eqb-true (k + 1) (length us) e)))
      (λ (e : eqb (k + 1) (length us) ≡ false).
      let l : suc k < length us = more (length us) h (eqb-false (k + 1) (length us) e) in
      rw e (freed_pair us k n s l begins (ends ∙ ap back (next_inside us k l))))
      (cases (eqb (k + 1) (length us)))
    where
      more : (m : ℕ) → k < m → (k + 1 ≡ m → ⊥) → suc k < m
      more m l f = ⊎_elim (λ (b : ltb (suc k) m ≡ true). ltb-true (suc k) m b) (λ (b : ltb (suc k) m ≡ false). absurd (f (omega (arith, ltb-false (suc k) m b)))) (cases (ltb (suc k) m))

      last : (i : ℕ) → i < length us → front n ≡ front (get_or us i 0) → back n ≡ back (get_or (rotated us) i 0) → i + 1 ≡ length us
          → Freed (back (get_or us i 0)) us (swap_pair (rotated us) (i - 1) n)
      last zero l b d e = absurd (not_alone us a s.loops (omega arith))
      last (suc j) l b d e =
          let z : suc j - 1 ≡ j = omega arith in
          let same : get_or (rotated us) j 0 ≡ get_or us (suc j) 0 = next_inside us j l in
          rw (z, ← same)
          (freed_rotated (back (get_or (rotated us) j 0)) us (swap_pair (rotated us) j n)
          (freed_pair (rotated us) j n (sound_rotated us s) (omega (arith, length_rotated us)) (b ∙ ap front (sym same)) d))

  pub all_swapped : (P : ℕ → Type 0) (us : List ℕ) (k n : ℕ) → All P us → P n → All P (swap_subwire us k n)
  all_swapped P us k n a h = either (eqb (k + 1) (length us))
    where
      pair : (vs : List ℕ) (i : ℕ) → All P vs → All P (swap_pair vs i n)
      pair vs i b = all_append P (take i vs) (n ∷ drop (i + 2) vs) (all_take P i vs b) (h, all_drop P (i + 2) vs b)

      either : (t : Bool) → All P (pick t (swap_pair (rotated us) (k - 1) n) (swap_pair us k n))
      either true = pair (rotated us) (k - 1) (all_append P (drop 1 us) (take 1 us) (all_drop P 1 us a) (all_take P 1 us a))
      either false = pair us k a
