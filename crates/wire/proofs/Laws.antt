-- Laws of wires: finding a use, running from use to use, the points that a wire meets, its faults.
use Rattle.std.specs.Prelude.{Err, None, Ok, Some}
use Prim.Native.Nat.{◌+◌, ◌-◌, ◌<◌, ◌≤◌, suc, zero, ℕ}
use mathlib.Core.Bool.{Bool, false, not, true}
use mathlib.Core.List.{List, [], ◌++◌, ◌∷◌}
use mathlib.Core.Path.{◌∙◌, ◌≡◌, ap, refl, sym}
use native.Mathlib.Numerals.{add-one}
use native.Mathlib.Omega.{arith}
use lib.Dec.{eqb, ltb}
use lib.ListN.{drop, drop_of_length-le, get_or, length, length-drop, length-map, length-take, take}
use lib.Seq.{drop-cons, get_or-drop, get_or-take}
use borrow.Author.Tests.{eq-eqb, le-leb, lt-leb, lt-ltb, ltb-true, ne_eqb}
use Rattle.edge.specs.Uses.{back_of, edge_number, front_of}
use Rattle.errors.specs.declared.WireError.TheVariants.{EmptyWire, NotClosedWire, NotSimpleWire}
use Rattle.lists.proofs.Marks.{AllBelow, met_fresh}
use Rattle.lists.specs.Lists.{no_dup, unless}
use Rattle.lists.specs.Marks.{Below, met}
use Rattle.wire.specs.Named.{Named}
use Rattle.wire.specs.Wires.{closed, end_from, find_from, outline_of, points, runs, wire_faults}
use Rattle.errors.specs.Sequence.{first_of_wire}

-- a search among the uses from place i on
module _ (us : List ℕ) (e i : ℕ) where
  pub find_past : length us ≤ i → find_from i e (drop i us) ≡ None
  unfolding find_from
  find_past h = rw drop_of_length-le

  pub find_here : i < length us → edge_number (get_or us i 0) ≡ e → find_from i e (drop i us) ≡ Some i
  unfolding find_from
  find_here h p = rw (drop-cons {A = ℕ} us i 0 h, eq-eqb (edge_number (get_or us i 0)) e p)

  pub find_next : i < length us → (edge_number (get_or us i 0) ≡ e → ⊥) → find_from i e (drop i us) ≡ find_from (i + 1) e (drop (i + 1) us)
  unfolding find_from
  find_next h p = rw (drop-cons {A = ℕ} us i 0 h, ne_eqb (edge_number (get_or us i 0)) e p, add-one)

module _ (us : List ℕ) (start n : ℕ) where
  pub outline_inside : start + n ≤ length us → take n (drop start us) ≡ outline_of us start n
  outline_inside h = sym (rw (le-leb (start + n) (length us) h))

  -- the part up to start + n, as the code takes it
  pub outline_part : start + n ≤ length us → take (start + n - start) (drop start us) ≡ outline_of us start n
  outline_part h = let e : start + n - start ≡ n = omega arith in rw e (outline_inside h)

  pub outline_past : length us < start + n → [] ≡ outline_of us start n
  outline_past h = sym (rw (lt-leb (start + n) (length us) h))

not_flip : (a b : Bool) → a ≡ not b → b ≡ not a
not_flip a true e = rw e
not_flip a false e = rw e

all_pass : (a b c : Bool) → first_of_wire (unless a EmptyWire ++ unless b NotClosedWire ++ unless c NotSimpleWire) ≡ Ok tt
    → (a ≡ true) × (b ≡ true) × (c ≡ true)
all_pass true true true h = (refl, refl, refl)
all_pass true true false h = (refl, refl, cc)
all_pass true false c h = (refl, cc, cc)
all_pass false b c h = (cc, cc, cc)

module _ (fronts backs : List ℕ) where
  pub closed_start : (us : List ℕ) → 0 < length us
      → closed fronts backs us ≡ runs fronts backs (back_of fronts backs (get_or us 0 0)) (drop 1 us) (front_of fronts backs (get_or us 0 0))
  unfolding closed
  closed_start [] h = absurd (omega arith)
  closed_start (u ∷ us) h = refl

  pub closed_none : (us : List ℕ) → length us ≡ 0 → closed fronts backs us ≡ true
  unfolding closed
  closed_none [] h = refl
  closed_none (u ∷ us) h = absurd (omega arith)

  -- the run from point p over the uses from place i on, to point q
  module _ (us : List ℕ) (p q i : ℕ) where
    pub runs_past : length us ≤ i → runs fronts backs p (drop i us) q ≡ eqb p q
    unfolding runs
    runs_past h = rw drop_of_length-le

    pub runs_stop : i < length us → (p ≡ front_of fronts backs (get_or us i 0) → ⊥) → runs fronts backs p (drop i us) q ≡ false
    unfolding runs
    runs_stop h e = rw (drop-cons {A = ℕ} us i 0 h, ne_eqb p (front_of fronts backs (get_or us i 0)) e)

    pub runs_next : i < length us → p ≡ front_of fronts backs (get_or us i 0)
        → runs fronts backs p (drop i us) q ≡ runs fronts backs (back_of fronts backs (get_or us i 0)) (drop (i + 1) us) q
    unfolding runs
    runs_next h e = rw (drop-cons {A = ℕ} us i 0 h, eq-eqb p (front_of fronts backs (get_or us i 0)) e, add-one)

  pub length_points : (us : List ℕ) → length (points fronts backs us) ≡ length us
  length_points us = length-map us (front_of fronts backs)

  pub get_d_points : (us : List ℕ) (k : ℕ) → k < length us → get_or (points fronts backs us) k 0 ≡ front_of fronts backs (get_or us k 0)
  get_d_points [] k h = omega arith
  get_d_points (u ∷ us) zero h = refl
  get_d_points (u ∷ us) (suc k) h = get_d_points us k (omega arith)

  -- the points of a named wire are below 2,048
  pub points_below : (us : List ℕ) → Named fronts backs us → AllBelow 2048 (points fronts backs us)
  points_below us n k h =
      let l : k < length us = omega (arith, length_points us) in
      rw (get_d_points us k l) (n.point k l)

  -- both columns have the edge of a named use
  pub named_edge : (us : List ℕ) → Named fronts backs us → (k : ℕ) → k < length us
      → (edge_number (get_or us k 0) < length fronts) × (edge_number (get_or us k 0) < length backs)
  named_edge us n k h = (n.edge k h, rw n.alike (n.edge k h))

  pub named_drop : (us : List ℕ) → Named fronts backs us → (start : ℕ) → Named fronts backs (drop start us)
  named_drop us n start = record {
    alike = n.alike;
    edge = λ k h. rw (get_or-drop start us k 0) (n.edge (start + k) (omega (arith, length-drop start us)));
    point = λ k h. rw (get_or-drop start us k 0) (n.point (start + k) (omega (arith, length-drop start us)));
  }

  pub named_take : (us : List ℕ) → Named fronts backs us → (n : ℕ) → Named fronts backs (take n us)
  named_take us d n = record {
    alike = d.alike;
    edge = λ k h. rw (get_or-take n us k 0 (omega (arith, length-take n us))) (d.edge k (omega (arith, length-take n us)));
    point = λ k h. rw (get_or-take n us k 0 (omega (arith, length-take n us))) (d.point k (omega (arith, length-take n us)));
  }

  -- a part of a named list of uses is named
  pub named_part : (us : List ℕ) → Named fronts backs us → (start n : ℕ) → Named fronts backs (take n (drop start us))
  named_part us d start n = named_take (drop start us) (named_drop us d start) n

  -- the answer of a stamping with a stamp above all marks
  pub once_says : (us marks : List ℕ) (s : ℕ) (again : Bool) → Named fronts backs us → length marks ≡ 2048 → Below s marks
      → again ≡ met s (points fronts backs us) marks → no_dup (points fronts backs us) ≡ not again
  once_says us marks s again n l b e =
      not_flip again (no_dup (points fronts backs us)) (e ∙ met_fresh 2048 s (points fronts backs us) marks l b (points_below us n))

  -- the first fault of a wire
  pub empty_wire : (us : List ℕ) → length us ≡ 0 → Err EmptyWire ≡ first_of_wire (wire_faults fronts backs us)
  empty_wire us h = sym (rw h)

  module _ (us : List ℕ) (some : 0 < length us) where
    pub open_wire : closed fronts backs us ≡ false → Err NotClosedWire ≡ first_of_wire (wire_faults fronts backs us)
    open_wire c = sym (rw (lt-ltb 0 (length us) some, c))

    pub repeating_wire : closed fronts backs us ≡ true → no_dup (points fronts backs us) ≡ false
        → Err NotSimpleWire ≡ first_of_wire (wire_faults fronts backs us)
    repeating_wire c d = sym (rw (lt-ltb 0 (length us) some, c, d))

    pub simple_wire : closed fronts backs us ≡ true → no_dup (points fronts backs us) ≡ true
        → Ok tt ≡ first_of_wire (wire_faults fronts backs us)
    simple_wire c d = sym (rw (lt-ltb 0 (length us) some, c, d))

  -- a wire with no fault has a use, is closed and meets no point twice
  pub record Sound (us : List ℕ) : Type 0 where
    pub used : 0 < length us
    pub loops : closed fronts backs us ≡ true
    pub once : no_dup (points fronts backs us) ≡ true

  pub simple_sound : (us : List ℕ) → first_of_wire (wire_faults fronts backs us) ≡ Ok tt → Sound us
  simple_sound us h =
      let t = all_pass (ltb 0 (length us)) (closed fronts backs us) (no_dup (points fronts backs us)) h in
      record { used = ltb-true 0 (length us) t.0; loops = t.1; once = t.2 }

  pub faultless_sound : (us : List ℕ) → wire_faults fronts backs us ≡ [] → Sound us
  faultless_sound us h = simple_sound us (ap first_of_wire h)

  pub faultless_no_dup : (us : List ℕ) → wire_faults fronts backs us ≡ [] → no_dup (points fronts backs us) ≡ true
  faultless_no_dup us h = (faultless_sound us h).once

module _ (fronts backs : List ℕ) where
  -- a search among the uses from place i on for one that ends at point p
  module _ (us : List ℕ) (p i : ℕ) where
    pub end_past : length us ≤ i → end_from fronts backs i p (drop i us) ≡ None
    unfolding end_from
    end_past h = rw drop_of_length-le

    pub end_here : i < length us → back_of fronts backs (get_or us i 0) ≡ p → end_from fronts backs i p (drop i us) ≡ Some i
    unfolding end_from
    end_here h e = rw (drop-cons {A = ℕ} us i 0 h, eq-eqb (back_of fronts backs (get_or us i 0)) p e)

    pub end_next : i < length us → (back_of fronts backs (get_or us i 0) ≡ p → ⊥)
        → end_from fronts backs i p (drop i us) ≡ end_from fronts backs (i + 1) p (drop (i + 1) us)
    unfolding end_from
    end_next h e = rw (drop-cons {A = ℕ} us i 0 h, ne_eqb (back_of fronts backs (get_or us i 0)) p e, add-one)
