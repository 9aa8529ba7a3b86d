-- Loops over the wires: what is left to do, wire by wire.
use Rattle.std.specs.Int.{from_bool}
use Rattle.std.specs.Prelude.{Some, is_some}
use Prim.Native.Nat.{◌+◌, ◌-◌, ◌<◌, ◌≤◌, suc, ℕ}
use mathlib.Core.Bool.{Bool, ◌&&◌, ◌||◌, false, not, true, true≢false}
use mathlib.Core.List.{List, [], ◌++◌, ◌∷◌, map, map-append}
use mathlib.Core.Logic.{⊎_elim}
use mathlib.Core.Path.{◌∙◌, ◌≡◌, ap, refl, sym}
use native.Mathlib.Numerals.{add-one}
use native.Mathlib.Omega.{arith}
use lib.Dec.{eqb}
use lib.ListN.{drop, drop_of_length-le, get_or, length, take}
use lib.Seq.{drop-cons}
use borrow.Author.Tests.{eq-eqb, eqb-true, ne_eqb, not-false, not-true}
use Rattle.cut_edge_faults.specs.Flags.{cuts_where, uses_where}
use Rattle.edge.specs.Uses.{edge_number}
use Rattle.lists.proofs.Count.{bit}
use Rattle.lists.proofs.Laws.{cases, eqb_sym, has_append, length_split}
use Rattle.lists.proofs.Split.{Walk, walk_next, walk_part, walk_start}
use Rattle.lists.specs.Lists.{flat, has, pick, split}
use Rattle.shell_edits.specs.Edits.{each_wire, place_in}
use Rattle.wire.specs.Wires.{find_from}

-- the walk at wire k, which has n uses from place `at` on
module _ (lens uses : List ℕ) (k at n : ℕ) (s : Walk lens k at) where
  pub rest_next : k < length lens → n ≡ get_or lens k 0 → drop k (split lens uses) ≡ take (at + n - at) (drop at uses) ∷ drop (suc k) (split lens uses)
  rest_next h is =
      drop-cons (split lens uses) k [] (omega (arith, length_split lens uses))
      ∙ ap (λ (us : List ℕ). us ∷ drop (suc k) (split lens uses)) (walk_part lens k at n s h is uses)

  pub rest_none : length lens ≤ k → drop k (split lens uses) ≡ []
  rest_none h = let l : length (split lens uses) ≤ k = omega (arith, length_split lens uses) in drop_of_length-le (split lens uses) l

module _ (flags : List Bool) (f : ℕ → ℕ) (v : ℕ) where
  picked : (b : Bool) (us rest : List ℕ) → has v (map f (pick b us [] ++ rest)) ≡ ((b && has v (map f us)) || has v (map f rest))
  picked true us rest = rw (map-append f us rest, has_append v (map f us) (map f rest))
  picked false us rest = refl

  -- a number among those of the flagged wires: in the next wire, or in the rest
  pub has_next : (k : ℕ) (us : List ℕ) (wires : List (List ℕ))
      → has v (map f (uses_where flags k (us ∷ wires))) ≡ ((get_or flags k false && has v (map f us)) || has v (map f (uses_where flags (suc k) wires)))
  unfolding each_wire flat
  has_next k us wires = picked (get_or flags k false) us (uses_where flags (suc k) wires)

  pub has_none : (k : ℕ) → has v (map f (uses_where flags k [])) ≡ false
  unfolding each_wire flat has
  has_none k = refl

-- a number among those of the uses from place i on
module _ (f : ℕ → ℕ) (p : ℕ) (us : List ℕ) (i : ℕ) where
  pub scan_past : length us ≤ i → has p (map f (drop i us)) ≡ false
  unfolding has
  scan_past h = rw (drop_of_length-le us h)

  pub scan_here : i < length us → p ≡ f (get_or us i 0) → has p (map f (drop i us)) ≡ true
  unfolding has
  scan_here h e = rw (drop-cons {A = ℕ} us i 0 h, eq-eqb p (f (get_or us i 0)) e)

  pub scan_next : i < length us → (p ≡ f (get_or us i 0) → ⊥) → has p (map f (drop i us)) ≡ has p (map f (drop (i + 1) us))
  unfolding has
  scan_next h e = rw (drop-cons {A = ℕ} us i 0 h, ne_eqb p (f (get_or us i 0)) e, add-one)

-- a search finds a use exactly if there is one
pub found_has : (i e : ℕ) (us : List ℕ) → is_some (find_from i e us) ≡ has e (map edge_number us)
unfolding find_from has
found_has i e [] = refl
found_has i e (u ∷ us) =
    ⊎_elim
    (λ (t : eqb (edge_number u) e ≡ true). rw (eqb_sym e (edge_number u), t))
    (λ (t : eqb (edge_number u) e ≡ false). rw (eqb_sym e (edge_number u), t) (found_has (i + 1) e us))
    (cases (eqb (edge_number u) e))

-- the place found, in the list whose first use has place i
pub record FoundAt (i e : ℕ) (us : List ℕ) (j : ℕ) : Type 0 where
  pub low : i ≤ j
  pub high : j < i + length us
  pub is : edge_number (get_or us (j - i) 0) ≡ e

pub found_at : (i e : ℕ) (us : List ℕ) (j : ℕ) → find_from i e us ≡ Some j → FoundAt i e us j
unfolding find_from
found_at i e [] j h = absurd (true≢false (sym (ap is_some h)))
found_at i e (u ∷ us) j h =
    ⊎_elim
    (λ (t : eqb (edge_number u) e ≡ true).
    let same : i ≡ j = ap place_in (rw t at h) in
    let z : j - i ≡ 0 = omega arith in
    record { low = omega arith; high = omega arith; is = rw z (eqb-true (edge_number u) e t) })
    (λ (t : eqb (edge_number u) e ≡ false).
    let r : FoundAt (i + 1) e us j = found_at (i + 1) e us j (rw t at h) in
    let z : j - i ≡ suc (j - (i + 1)) = omega (arith, r.low) in
    record { low = omega (arith, r.low); high = omega (arith, r.high); is = rw z r.is })
    (cases (eqb (edge_number u) e))

-- the wires cut: the next one, and the rest
module _ (flags : List Bool) (e : ℕ) where
  pub cuts_next : (k : ℕ) (us : List ℕ) (wires : List (List ℕ))
      → cuts_where flags e k (us ∷ wires) ≡ pick (get_or flags k false && has e (map edge_number us)) 1 0 + cuts_where flags e (suc k) wires
  unfolding cuts_where
  cuts_next k us wires = refl

  pub cuts_none : (k : ℕ) → cuts_where flags e k [] ≡ 0
  unfolding cuts_where
  cuts_none k = refl

one_cut : (b : Bool) → (pick b 1 0 ≤ 1)
one_cut true = omega arith
one_cut false = omega arith

-- the loop that counts, at wire k, whose uses begin at place `at`
pub record Counting (flags : List Bool) (e : ℕ) (lens uses : List ℕ) (count at k : ℕ) : Type 0 where
  pub walk : Walk lens k at
  pub so_far : cuts_where flags e 0 (split lens uses) ≡ count + cuts_where flags e k (drop k (split lens uses))
  pub low : count ≤ k

module _ (flags : List Bool) (e : ℕ) (lens uses : List ℕ) where
  pub counting_start : Counting flags e lens uses 0 0 0
  counting_start = record { walk = walk_start lens; so_far = omega arith; low = omega arith }

  module _ (count at k : ℕ) (s : Counting flags e lens uses count at k) where
    pub counting_next : (n c : ℕ) → k < length lens → n ≡ get_or lens k 0 → c ≡ pick (get_or flags k false && has e (map edge_number (take (at + n - at) (drop at uses)))) 1 0
        → Counting flags e lens uses (count + c) (at + n) (k + 1)
    counting_next n c h is cut =
        let us = take (at + n - at) (drop at uses) in
        let rest : cuts_where flags e k (drop k (split lens uses)) ≡ c + cuts_where flags e (k + 1) (drop (k + 1) (split lens uses)) =
        rw (rest_next lens uses k at n s.walk h is, cuts_next flags e k us (drop (suc k) (split lens uses)), cut, add-one) in
        record {
          walk = walk_next lens k at n s.walk h is;
          so_far = omega (arith, s.so_far, rest);
          low = omega (arith, s.low, cut, one_cut (get_or flags k false && has e (map edge_number us)));
        }

    pub counting_all : length lens ≤ k → count ≡ cuts_where flags e 0 (split lens uses)
    counting_all h =
        let none : cuts_where flags e k (drop k (split lens uses)) ≡ 0 = rw (rest_none lens uses k at 0 s.walk h) (cuts_none flags e k) in
        omega (arith, s.so_far, none)

-- the loop that looks for a number among those of the flagged wires
pub record Seeking (flags : List Bool) (f : ℕ → ℕ) (v : ℕ) (lens uses : List ℕ) (at k : ℕ) : Type 0 where
  pub walk : Walk lens k at
  pub so_far : has v (map f (uses_where flags 0 (split lens uses))) ≡ has v (map f (uses_where flags k (drop k (split lens uses))))

module _ (flags : List Bool) (f : ℕ → ℕ) (v : ℕ) (lens uses : List ℕ) where
  pub seeking_start : Seeking flags f v lens uses 0 0
  seeking_start = record { walk = walk_start lens; so_far = refl }

  module _ (at k : ℕ) (s : Seeking flags f v lens uses at k) where
    turn : (n : ℕ) (b : Bool) → k < length lens → n ≡ get_or lens k 0 → b ≡ (get_or flags k false && has v (map f (take (at + n - at) (drop at uses))))
        → has v (map f (uses_where flags 0 (split lens uses))) ≡ (b || has v (map f (uses_where flags (suc k) (drop (suc k) (split lens uses)))))
    turn n b h is e =
        s.so_far
        ∙ rw (rest_next lens uses k at n s.walk h is, has_next flags f v k (take (at + n - at) (drop at uses)) (drop (suc k) (split lens uses)), e)

    pub seeking_here : (n : ℕ) {b : Bool} → k < length lens → n ≡ get_or lens k 0 → b ≡ (get_or flags k false && has v (map f (take (at + n - at) (drop at uses)))) → b ≡ true
        → true ≡ has v (map f (uses_where flags 0 (split lens uses)))
    seeking_here n {b} h is e t = sym (rw t at (turn n b h is e))

    pub seeking_next : (n : ℕ) {b : Bool} → k < length lens → n ≡ get_or lens k 0 → b ≡ (get_or flags k false && has v (map f (take (at + n - at) (drop at uses)))) → b ≡ false
        → Seeking flags f v lens uses (at + n) (k + 1)
    seeking_next n {b} h is e t = record { walk = walk_next lens k at n s.walk h is; so_far = rw (← add-one k) at (rw t at (turn n b h is e)) }

    pub seeking_none : length lens ≤ k → false ≡ has v (map f (uses_where flags 0 (split lens uses)))
    seeking_none h = sym (s.so_far ∙ rw (rest_none lens uses k at 0 s.walk h) (has_none flags f v k))

-- one wire: not flagged; flagged, and a use found or none
module _ (b : Bool) where
  pub meets_off : (x : Bool) → not b ≡ true → false ≡ (b && x)
  meets_off x h = sym (rw (not-true b h))

  pub meets_on : (f : ℕ → ℕ) (us : List ℕ) {p v : ℕ} {x : Bool} → not b ≡ false → p ≡ v → has p (map f us) ≡ x → x ≡ (b && has v (map f us))
  meets_on f us h e is = sym (rw (not-false b h, ← e) is)

-- one wire gives way to one use or to none
pub one_if : (b : Bool) → (from_bool b ≡ bit b) × (from_bool b ≤ 1)
one_if true = (refl, omega arith)
one_if false = (refl, omega arith)
