-- Laws of the swaps of a wire.
use Prim.Native.Nat.{◌+◌, ◌-◌, ◌<◌, ◌≤◌, suc, ℕ}
use mathlib.Core.Bool.{false}
use mathlib.Core.List.{List, [], ◌++◌, ◌∷◌, append_assoc}
use mathlib.Core.Path.{◌∙◌, ◌≡◌, ap, refl, sym}
use native.Mathlib.Nat.{sub-zero}
use native.Mathlib.Numerals.{add-one}
use native.Mathlib.Omega.{arith}
use lib.Dec.{eqb}
use lib.ListN.{drop, drop_of_length-le, get_or, length, length-append, length-drop, set, take}
use lib.Seq.{length-take-le, sets, take_all, take-append-le}
use borrow.Author.Tests.{eq-eqb, ne_eqb}
use Rattle.edge.specs.Uses.{back_of, front_of}
use Rattle.lists.proofs.Sets.{sets_then}
use Rattle.lists.specs.Lists.{rotated}
use Rattle.wire_swaps.specs.Swaps.{same_ends, swap_edge, swap_subwire}

module _ (fronts backs : List ℕ) where
  -- the ends of use u and of another wire, as the code compares them
  module _ (u : ℕ) where
    pub ends_none : (vs : List ℕ) → length vs ≡ 0 → same_ends fronts backs u vs ≡ false
    ends_none [] h = refl
    ends_none (v ∷ vs) h = absurd (omega arith)

    pub ends_front : (vs : List ℕ) → 0 < length vs → (front_of fronts backs u ≡ front_of fronts backs (get_or vs 0 0) → ⊥) → same_ends fronts backs u vs ≡ false
    ends_front [] h e = absurd (omega arith)
    ends_front (v ∷ vs) h e = rw (ne_eqb (front_of fronts backs u) (front_of fronts backs v) e)

    pub ends_back : (vs : List ℕ) → 0 < length vs → front_of fronts backs u ≡ front_of fronts backs (get_or vs 0 0)
        → same_ends fronts backs u vs ≡ eqb (back_of fronts backs u) (back_of fronts backs (get_or vs (length vs - 1) 0))
    ends_back [] h e = absurd (omega arith)
    ends_back (v ∷ vs) h e =
        let n : suc (length vs) - 1 ≡ length vs = omega arith in
        rw (eq-eqb (front_of fronts backs u) (front_of fronts backs v) e, n)

-- a list from place n to its end, as the code takes it
rest_taken : (us : List ℕ) (n : ℕ) → take (length us - n) (drop n us) ≡ drop n us
rest_taken us n = take_all (length us - n) (drop n us) (omega (arith, length-drop n us))

-- the use at place i gives way to another wire: three parts stored, one after the other
pub swap_edge_written : (us : List ℕ) (i : ℕ) (new l : List ℕ) (at : ℕ) (out out' out'' : List ℕ) → i < length us → out ≡ sets l at (take (i - 0) us)
    → out' ≡ sets out (at + i) new → out'' ≡ sets out' (at + i + length new) (take (length us - (i + 1)) (drop (i + 1) us))
    → out'' ≡ sets l at (swap_edge us i new)
swap_edge_written us i new l at out out' out'' h e f g =
    let long : length (take i us) ≡ i = length-take-le i us (omega arith) in
    let first : out ≡ sets l at (take i us) = rw (sub-zero i) at e in
    let two : out' ≡ sets l at (take i us ++ new) = sets_then l at (take i us) new (at + i) (omega (arith, long)) first f in
    let place : at + i + length new ≡ at + length (take i us ++ new) = omega (arith, long, length-append (take i us) new) in
    let rest : take (length us - (i + 1)) (drop (i + 1) us) ≡ drop (suc i) us = rest_taken us (i + 1) ∙ ap (λ (k : ℕ). drop k us) (add-one i) in
    sets_then l at (take i us ++ new) (drop (suc i) us) (at + i + length new) place two (g ∙ ap (sets out' (at + i + length new)) rest)
    ∙ ap (sets l at) (append_assoc (take i us) new (drop (suc i) us))

module _ (us : List ℕ) (i u : ℕ) (l : List ℕ) (at : ℕ) (out : List ℕ) (h : i < length us) where
  -- the last use and, after rotation, the first: those between and one use stored
  pub swap_last_written : 2 ≤ length us → i + 1 ≡ length us → out ≡ sets l at (take (i - 1) (drop 1 us))
      → set out (at + (i - 1)) u ≡ sets l at (swap_subwire us i u)
  swap_last_written two last e =
      let rest : length (drop 1 us) ≡ i = omega (arith, length-drop 1 us) in
      let few : length (take (i - 1) (drop 1 us)) ≡ i - 1 = length-take-le (i - 1) (drop 1 us) (omega (arith, rest)) in
      let place : at + (i - 1) ≡ at + length (take (i - 1) (drop 1 us)) = omega (arith, few) in
      let none : drop (i - 1 + 2) (rotated us) ≡ [] =
      drop_of_length-le (rotated us) {i = i - 1 + 2} (omega (arith, length-append (drop 1 us) (take 1 us), rest, length-take-le 1 us (omega arith))) in
      let front : take (i - 1) (rotated us) ≡ take (i - 1) (drop 1 us) = take-append-le (i - 1) (drop 1 us) (take 1 us) (omega (arith, rest)) in
      let pair : take (i - 1) (drop 1 us) ++ (u ∷ []) ≡ swap_subwire us i u =
      sym (rw (eq-eqb (i + 1) (length us) last, none, front)) in
      sets_then l at (take (i - 1) (drop 1 us)) (u ∷ []) (at + (i - 1)) place e refl ∙ ap (sets l at) pair

  -- the use at place i and the next: those before, one use and those after stored
  pub swap_pair_written : (out' : List ℕ) → (i + 1 ≡ length us → ⊥) → out ≡ sets l at (take (i - 0) us)
      → out' ≡ sets (set out (at + i) u) (at + i + 1) (take (length us - (i + 2)) (drop (i + 2) us))
      → out' ≡ sets l at (swap_subwire us i u)
  swap_pair_written out' ne e f =
      let long : length (take i us) ≡ i = length-take-le i us (omega arith) in
      let first : out ≡ sets l at (take i us) = rw (sub-zero i) at e in
      let stored : out' ≡ sets out (at + i) (u ∷ drop (i + 2) us) = rw (rest_taken us (i + 2), add-one (at + i)) at f in
      let pair : take i us ++ (u ∷ drop (i + 2) us) ≡ swap_subwire us i u = sym (rw (ne_eqb (i + 1) (length us) ne)) in
      sets_then l at (take i us) (u ∷ drop (i + 2) us) (at + i) (omega (arith, long)) first stored ∙ ap (sets l at) pair
