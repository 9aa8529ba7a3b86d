-- The uses of the halves: they name edges and points, and run between the ends of the use that gives way.
use Prim.Native.Nat.{◌+◌, ◌<◌, ◌≤◌, ℕ}
use mathlib.Core.Bool.{Bool, false, true}
use mathlib.Core.List.{List, [], ◌∷◌}
use mathlib.Core.Logic.{⊎_elim}
use mathlib.Core.Path.{◌≡◌, refl, sym}
use native.Mathlib.Omega.{arith}
use lib.Dec.{eqb, leb}
use lib.ListN.{get_or, length}
use borrow.Author.Tests.{eq-eqb, le-leb, lt-leb}
use Rattle.cut_edge_wires.specs.Halves.{Halved}
use Rattle.edge.specs.Uses.{edge_number, front_of, turned}
use Rattle.lists.proofs.Count.{All}
use Rattle.lists.proofs.Laws.{cases}
use Rattle.lists.proofs.Parts.{all_place}
use Rattle.lists.specs.Lists.{pick}
use Rattle.shell_edits.specs.Edits.{halves_of}
use Rattle.wire_swaps.specs.Swaps.{same_ends}
use Rattle.wire.specs.Named.{Named}

pub halves_long : (a u : ℕ) → length (halves_of a u) ≡ 2
halves_long a u =
    ⊎_elim (λ (t : leb 32768 u ≡ true). rw t) (λ (t : leb 32768 u ≡ false). rw t) (cases (leb 32768 u))

-- a use below 32,768 and that use turned
pub turned_small : (a : ℕ) → a < 32768 → turned a ≡ a + 32768
turned_small a h = rw (lt-leb 32768 a h)

-- the halves as the code makes them
module _ (a u : ℕ) (h : a < 1024) where
  pub halves_reversed : 32768 ≤ u → (a + 32769) ∷ (a + 32768) ∷ [] ≡ halves_of a u
  halves_reversed l =
      let e : a + 1 + 32768 ≡ a + 32769 = omega arith in
      sym (rw (le-leb 32768 u l, turned_small (a + 1) (omega arith), turned_small a (omega arith), e))

  pub halves_along : u < 32768 → a ∷ (a + 1) ∷ [] ≡ halves_of a u
  halves_along l = sym (rw (lt-leb 32768 u l))

module _ (fronts backs : List ℕ) (u : ℕ) where
  front_reversed : leb 32768 u ≡ true → front_of fronts backs u ≡ get_or backs (edge_number u) 0
  unfolding front_of
  front_reversed t = rw t

  front_along : leb 32768 u ≡ false → front_of fronts backs u ≡ get_or fronts (edge_number u) 0
  unfolding front_of
  front_along t = rw t

module _ (fronts backs : List ℕ) (a : ℕ) (h : a < 32768) where
  pub along : front_of fronts backs a ≡ get_or fronts a 0
  unfolding front_of
  along = let e : edge_number a ≡ a = omega arith in rw (lt-leb 32768 a h, e)

  pub against : front_of fronts backs (turned a) ≡ get_or backs a 0
  unfolding front_of
  against =
      let e : edge_number (a + 32768) ≡ a = omega arith in
      rw (turned_small a h, le-leb 32768 (a + 32768) (omega arith), e)

module _ (fronts backs : List ℕ) (e a : ℕ) (s : Halved fronts backs e a) where
  abbrev Fine : ℕ → Type 0
  Fine u = (edge_number u < length fronts) × (front_of fronts backs u < 2048)

  fine_along : (b : ℕ) → b < length fronts → get_or fronts b 0 < 2048 → Fine b
  fine_along b l h = (omega (arith, s.small), rw (along fronts backs b (omega (arith, s.small))) h)

  fine_against : (b : ℕ) → b < length fronts → get_or backs b 0 < 2048 → Fine (turned b)
  fine_against b l h =
      let small : b < 32768 = omega (arith, s.small) in
      (rw (turned_small b small) (omega (arith, s.small)), rw (against fronts backs b small) h)

  all_fine : (r : Bool) → All Fine (pick r (turned (a + 1) ∷ turned a ∷ []) (a ∷ (a + 1) ∷ []))
  all_fine true = (fine_against (a + 1) s.long s.points.3, (fine_against a (omega (arith, s.long)) s.points.2, tt))
  all_fine false = (fine_along a (omega (arith, s.long)) s.points.0, (fine_along (a + 1) s.long s.points.1, tt))

  pub halves_named : (u : ℕ) → Named fronts backs (halves_of a u)
  halves_named u = record {
    alike = s.alike;
    edge = λ k h. (all_place Fine 0 (halves_of a u) (all_fine (leb 32768 u)) k h).0;
    point = λ k h. (all_place Fine 0 (halves_of a u) (all_fine (leb 32768 u)) k h).1;
  }

  pub halves_end : (u : ℕ) → edge_number u ≡ e → same_ends fronts backs u (halves_of a u) ≡ true
  halves_end u is =
      let p : a < 32768 = omega (arith, s.long, s.small) in
      let q : a + 1 < 32768 = omega (arith, s.long, s.small) in
      let f : eqb (get_or fronts e 0) (get_or fronts e 0) ≡ true = eq-eqb (get_or fronts e 0) (get_or fronts e 0) refl in
      let b : eqb (get_or backs e 0) (get_or backs e 0) ≡ true = eq-eqb (get_or backs e 0) (get_or backs e 0) refl in
      ⊎_elim
      (λ (t : leb 32768 u ≡ true).
      rw (t, front_reversed fronts backs u t, front_reversed backs fronts u t, against fronts backs (a + 1) q, against backs fronts a p, is, s.back, s.front, f, b))
      (λ (t : leb 32768 u ≡ false).
      rw (t, front_along fronts backs u t, front_along backs fronts u t, along fronts backs a p, along backs fronts (a + 1) q, is, s.back, s.front, f, b))
      (cases (leb 32768 u))
