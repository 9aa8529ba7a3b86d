-- The use that ends at the point, the next on its wire, and two such pairs.
use Rattle.std.specs.Prelude.{None, Option, Some, is_some}
use Prim.Native.Nat.{◌+◌, ◌<◌, ◌≤◌, suc, ℕ}
use Prim.{⊥}
use mathlib.Core.Bool.{false, true, true≢false}
use mathlib.Core.List.{List, [], ◌∷◌}
use mathlib.Core.Logic.{⊎_elim}
use mathlib.Core.Path.{◌∙◌, ◌≡◌, ap, refl, sym}
use native.Mathlib.Numerals.{add-one}
use native.Mathlib.Omega.{arith}
use lib.Dec.{eqb}
use lib.ListN.{drop, get_or, length, length-drop, take, get_or-append}
use lib.Seq.{get_or-append-add, length-take-le}
use borrow.Author.Tests.{eqb-false, eqb-true}
use Rattle.edge.specs.Uses.{back_of, edge_number}
use Rattle.lists.proofs.Laws.{cases}
use Rattle.lists.proofs.Split.{Walk, get_d_split, walk_fits, walk_part}
use Rattle.lists.specs.Lists.{rotated, split, sum}
use Rattle.remove_vertex_corners.specs.Corners.{corner_of, place_of}
use Rattle.remove_vertex_corners.specs.declared.Corner.{Corner}
use Rattle.shell_edits.specs.Edits.{place_in}
use Rattle.wire.proofs.Laws.{outline_part}
use Rattle.wire.specs.Named.{Named}
use Rattle.wire.specs.Wires.{end_from, outline_of}

module _ (fronts backs : List ℕ) (v : ℕ) where
  -- the place lies on the wire
  place_low : (us : List ℕ) (i j : ℕ) → end_from fronts backs i v us ≡ Some j → j < i + length us
  unfolding end_from
  place_low [] i j h = absurd (true≢false (sym (ap is_some h)))
  place_low (u ∷ us) i j h =
      ⊎_elim
      (λ (t : eqb (back_of fronts backs u) v ≡ true). let e : i ≡ j = at_same (rw t at h) in omega arith)
      (λ (t : eqb (back_of fronts backs u) v ≡ false). omega (arith, place_low us (i + 1) j (rw t at h)))
      (cases (eqb (back_of fronts backs u) v))
    where
      at_same : {a b : ℕ} → Some a ≡ Some b → a ≡ b
      at_same h = cc

  pub place_inside : (us : List ℕ) → 0 < length us → place_of fronts backs v us < length us
  place_inside us some = go (end_from fronts backs 0 v us) refl
    where
      go : (f : Option ℕ) → end_from fronts backs 0 v us ≡ f → place_in f < length us
      go (Some i) h = omega (arith, place_low us 0 i h)
      go None h = some

-- ---- the next use
next_last : (us : List ℕ) (i : ℕ) → i + 1 ≡ length us → get_or (rotated us) i 0 ≡ get_or us 0 0
next_last [] i h = absurd (omega arith)
next_last (u ∷ us) i h = let e : i ≡ length us + 0 = omega arith in rw e (get_or-append-add us (u ∷ []) 0 0)

next_other : (us : List ℕ) (i : ℕ) → i < length us → (i + 1 ≡ length us → ⊥) → get_or (rotated us) i 0 ≡ get_or us (i + 1) 0
next_other [] i h n = absurd (omega arith)
next_other (u ∷ us) i h n =
    let ne : (i + 1 ≡ suc (length us)) → ⊥ = n in
    let b : i < length us = less (length us) i h ne in
    rw add-one (get_or-append us (u ∷ []) 0 i b)
  where
    less : (m i : ℕ) → i < suc m → (i + 1 ≡ suc m → ⊥) → i < m
    less m i h n = ⊎_elim (λ (t : eqb (i + 1) (suc m) ≡ true). absurd (n (eqb-true (i + 1) (suc m) t))) (λ (t : eqb (i + 1) (suc m) ≡ false). omega (arith, eqb-false (i + 1) (suc m) t)) (cases (eqb (i + 1) (suc m)))

module _ (fronts backs : List ℕ) (v : ℕ) (us : List ℕ) {i : ℕ} (is : i ≡ place_of fronts backs v us) where
  abbrev corner_as : ℕ → ℕ → Corner
  corner_as a b = record { ending = a; next = b }

  pub corner_last : i + 1 ≡ length us → corner_as (get_or us i 0) (get_or us 0 0) ≡ corner_of fronts backs v us
  corner_last h = rw (← is, next_last us i h)

  pub corner_other : i < length us → (i + 1 ≡ length us → ⊥) → corner_as (get_or us i 0) (get_or us (i + 1) 0) ≡ corner_of fronts backs v us
  corner_other l h = rw (← is, next_other us i l h)

-- both uses of a corner name edges
module _ (fronts backs : List ℕ) (v : ℕ) where
  both_named : (us : List ℕ) → Named fronts backs us → 0 < length us → (edge_number (corner_of fronts backs v us).ending < length fronts) × (edge_number (corner_of fronts backs v us).next < length fronts)
  both_named us h some =
      let i = place_of fronts backs v us in
      let low : i < length us = place_inside fronts backs v us some in
      ⊎_elim
      (λ (t : eqb (i + 1) (length us) ≡ true). (h.edge i low, rw (next_last us i (eqb-true (i + 1) (length us) t)) (h.edge 0 some)))
      (λ (t : eqb (i + 1) (length us) ≡ false). (h.edge i low, rw (next_other us i low (eqb-false (i + 1) (length us) t)) (h.edge (i + 1) (omega (arith, eqb-false (i + 1) (length us) t)))))
      (cases (eqb (i + 1) (length us)))

  pub corner_named : {us : List ℕ} → Named fronts backs us → 0 < length us → {r : Corner} → r ≡ corner_of fronts backs v us
      → (edge_number r.ending < length fronts) × (edge_number r.next < length fronts)
  corner_named {us} named some is = rw is (both_named us named some)

-- wire w, as the code takes it
pub wire_part : (lens uses : List ℕ) {w start n : ℕ} → w < length lens → start ≡ sum (take w lens) → n ≡ get_or lens w 0 → sum lens ≡ length uses
    → outline_of uses start n ≡ get_or (split lens uses) w []
wire_part lens uses {w} {start} {n} h begin is all =
    let walk : Walk lens w start = record { low = omega arith; here = begin } in
    sym (outline_part uses start n (omega (arith, walk_fits lens w start n walk h is, all))) ∙ sym (walk_part lens w start n walk h is uses)

-- part w has the length that is given
pub part_long : (ns xs : List ℕ) (w : ℕ) → sum ns ≡ length xs → w < length ns → length (get_or (split ns xs) w []) ≡ get_or ns w 0
part_long ns xs w e h =
    let at = sum (take w ns) in
    let fits : at + get_or ns w 0 ≤ sum ns = walk_fits ns w at (get_or ns w 0) (record { low = omega arith; here = refl }) h refl in
    ap length (get_d_split ns xs w) ∙ length-take-le (get_or ns w 0) (drop at xs) (omega (arith, length-drop at xs))
