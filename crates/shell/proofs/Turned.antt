-- A use turned: the same edge, the other way, and turned again the same use. Uses are numbers below 65,536.
use Prim.Native.Nat.{◌+◌, ◌-◌, ◌<◌, ◌≤◌, ℕ}
use mathlib.Core.Bool.{Bool, false, not, true}
use mathlib.Core.List.{List, [], ◌∷◌, map}
use mathlib.Core.Logic.{◌⊎◌, inl, inr, ⊎_elim}
use mathlib.Core.Path.{◌∙◌, ◌≡◌, ap, refl, sym}
use native.Mathlib.Omega.{arith}
use lib.Dec.{eqb, leb}
use lib.ListN.{get_or}
use borrow.Author.Tests.{eq-eqb, eqb-false, eqb-true, le-leb, leb-false, leb-true, lt-leb, ne_eqb}
use Rattle.edge.specs.Uses.{back_of, edge_number, front_of, turned}
use Rattle.lists.proofs.Count.{All, all_weaker, bit, count_map, count_same}
use Rattle.lists.proofs.Laws.{cases}
use Rattle.lists.specs.Lists.{count, pick}
use Rattle.shell.specs.Conditions.{uses_of}

pub turned_low : (u : ℕ) → u < 65536 → turned u < 65536
turned_low u h =
    ⊎_elim
    (λ (r : leb 32768 u ≡ true). rw r (omega arith))
    (λ (r : leb 32768 u ≡ false). rw r (omega (arith, leb-false 32768 u r)))
    (cases (leb 32768 u))

pub turned_edge : (u : ℕ) → u < 65536 → edge_number (turned u) ≡ edge_number u
turned_edge u h =
    ⊎_elim
    (λ (r : leb 32768 u ≡ true). rw r (omega (arith, leb-true 32768 u r)))
    (λ (r : leb 32768 u ≡ false). rw r (omega arith))
    (cases (leb 32768 u))

turned_way : (u : ℕ) → u < 65536 → leb 32768 (turned u) ≡ not (leb 32768 u)
turned_way u h =
    ⊎_elim
    (λ (r : leb 32768 u ≡ true). rw r (lt-leb 32768 (u - 32768) (omega arith)))
    (λ (r : leb 32768 u ≡ false). rw r (le-leb 32768 (u + 32768) (omega arith)))
    (cases (leb 32768 u))

turned_again : (u : ℕ) → u < 65536 → turned (turned u) ≡ u
turned_again u h =
    ⊎_elim
    (λ (r : leb 32768 u ≡ true). rw (r, lt-leb 32768 (u - 32768) (omega arith)) (omega (arith, leb-true 32768 u r)))
    (λ (r : leb 32768 u ≡ false). rw (r, le-leb 32768 (u + 32768) (omega arith)) (omega arith))
    (cases (leb 32768 u))

pub turned_eqb : (x u : ℕ) → x < 65536 → u < 65536 → eqb x (turned u) ≡ eqb (turned x) u
turned_eqb x u hx hu =
    ⊎_elim
    (λ (e : eqb x (turned u) ≡ true). e ∙ sym (eq-eqb (turned x) u (ap turned (eqb-true x (turned u) e) ∙ turned_again u hu)))
    (λ (e : eqb x (turned u) ≡ false). e ∙ sym (ne_eqb (turned x) u (λ f. eqb-false x (turned u) e (sym (turned_again x hx) ∙ ap turned f))))
    (cases (eqb x (turned u)))

-- a use turned begins where the use ends
pub turned_front : (fronts backs : List ℕ) (u : ℕ) → u < 65536 → front_of fronts backs (turned u) ≡ back_of fronts backs u
unfolding front_of
turned_front fronts backs u h = rw (turned_way u h, turned_edge u h) (other (leb 32768 u))
  where
    other : (b : Bool) → pick (not b) (get_or backs (edge_number u) 0) (get_or fronts (edge_number u) 0) ≡ pick b (get_or fronts (edge_number u) 0) (get_or backs (edge_number u) 0)
    other true = refl
    other false = refl

-- so uses turned begin at a point as often as the uses end there
pub turned_count : (fronts backs : List ℕ) (p : ℕ) (us : List ℕ) → All (λ (u : ℕ). u < 65536) us
    → count (λ (u : ℕ). eqb (front_of fronts backs u) p) (map turned us) ≡ count (λ (u : ℕ). eqb (back_of fronts backs u) p) us
turned_count fronts backs p us h =
    count_map (λ (u : ℕ). eqb (front_of fronts backs u) p) turned us
    ∙ count_same (λ (u : ℕ). eqb (front_of fronts backs (turned u)) p) (λ (u : ℕ). eqb (back_of fronts backs u) p) us
    (all_weaker (λ (u : ℕ). u < 65536) (λ (u : ℕ). eqb (front_of fronts backs (turned u)) p ≡ eqb (back_of fronts backs u) p)
    (λ u l. ap (λ (q : ℕ). eqb q p) (turned_front fronts backs u l)) us h)

-- the two uses of an edge
pub edge_uses : (us : List ℕ) → All (λ (u : ℕ). u < 65536) us → (e : ℕ) → e < 32768 → uses_of us e ≡ count (eqb e) us + count (eqb (e + 32768)) us
unfolding uses_of count
edge_uses [] h e l = refl
edge_uses (u ∷ us) h e l = omega (arith, edge_uses us h.1 e l, one)
  where
    one : bit (eqb (edge_number u) e) ≡ bit (eqb e u) + bit (eqb (e + 32768) u)
    one =
        ⊎_elim
        (λ (a : eqb e u ≡ true).
        let z = eqb-true e u a in
        rw (a, ne_eqb (e + 32768) u (λ f. omega (arith, z, f)), eq-eqb (edge_number u) e (omega (arith, z, h.0))))
        (λ (a : eqb e u ≡ false).
        ⊎_elim
        (λ (b : eqb (e + 32768) u ≡ true).
        let z = eqb-true (e + 32768) u b in
        rw (a, b, eq-eqb (edge_number u) e (omega (arith, z, h.0))))
        (λ (b : eqb (e + 32768) u ≡ false).
        let y = eqb-false e u a in
        let z = eqb-false (e + 32768) u b in
        rw (a, b, ne_eqb (edge_number u) e (λ f. neither f (cases (leb 32768 u)) y z)))
        (cases (eqb (e + 32768) u)))
        (cases (eqb e u))
      where
        neither : edge_number u ≡ e → (leb 32768 u ≡ true) ⊎ (leb 32768 u ≡ false) → (e ≡ u → ⊥) → (e + 32768 ≡ u → ⊥) → ⊥
        neither f (inl r) y z = z (omega (arith, f, leb-true 32768 u r, h.0))
        neither f (inr r) y z = y (omega (arith, f, leb-false 32768 u r))

pub both_ways : (us : List ℕ) → All (λ (u : ℕ). u < 65536) us → (u : ℕ) → u < 65536 → uses_of us (edge_number u) ≡ count (eqb u) us + count (eqb (turned u)) us
both_ways us h u l =
    ⊎_elim
    (λ (r : leb 32768 u ≡ true).
    let m : 32768 ≤ u = leb-true 32768 u r in
    let e : edge_number u ≡ u - 32768 = omega (arith, m) in
    let f : u - 32768 + 32768 ≡ u = omega (arith, m) in
    rw (r, e) (omega (arith, rw f at (edge_uses us h (u - 32768) (omega (arith, l))))))
    (λ (r : leb 32768 u ≡ false).
    let m : u < 32768 = leb-false 32768 u r in
    let e : edge_number u ≡ u = omega (arith, m) in
    rw (r, e) (edge_uses us h u m))
    (cases (leb 32768 u))
