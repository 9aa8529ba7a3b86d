-- The loop that writes the wires after the cut.
use Rattle.std.specs.Prelude.{None, Option, Some, is_some}
use Prim.Native.Nat.{◌+◌, ◌-◌, ◌<◌, ◌≤◌, suc, ℕ}
use mathlib.Core.Bool.{Bool, false, true, true≢false}
use mathlib.Core.List.{List, [], ◌++◌, ◌∷◌, map}
use mathlib.Core.Path.{◌∙◌, ◌≡◌, ap, refl, sym}
use native.Mathlib.Numerals.{add-one}
use native.Mathlib.Omega.{arith}
use lib.ListN.{drop, get_or, length, length-append, length-drop, length-set, length-take, set, take}
use lib.Seq.{length-sets, sets}
use Rattle.cut_edge_faults.proofs.Flags.{FoundAt, found_at, rest_next, rest_none}
use Rattle.cut_edge_wires.proofs.Halves.{halves_end, halves_long}
use Rattle.cut_edge_wires.specs.Halves.{Halved}
use Rattle.edge.specs.Uses.{edge_number}
use Rattle.lists.proofs.Sets.{sets_append}
use Rattle.lists.proofs.Split.{Walk, walk_next, walk_start}
use Rattle.lists.specs.Lists.{flat, pick, split}
use Rattle.shell_edits.specs.Edits.{cut_wire, each_wire, halves_of, swap_found}
use Rattle.wire_swaps.specs.Swaps.{same_ends, swap_edge}
use Rattle.wire.specs.Wires.{find_from}

-- ---- one wire

pub flagged_found : (b : Bool) (e a : ℕ) (us : List ℕ) → pick b (cut_wire e a us) us ≡ swap_found a us (pick b (find_from 0 e us) None)
flagged_found true e a us = refl
flagged_found false e a us = refl

pub found_flagged : (b : Bool) (f : Option ℕ) {g : Option ℕ} → b ≡ true → g ≡ f → g ≡ pick b f None
found_flagged b f t e = e ∙ sym (rw t)

at_found : (b : Bool) (e : ℕ) (us : List ℕ) (i : ℕ) → pick b (find_from 0 e us) None ≡ Some i → find_from 0 e us ≡ Some i
at_found true e us i h = h
at_found false e us i h = absurd (true≢false (sym (ap is_some h)))

module _ (b : Bool) (e a : ℕ) (us : List ℕ) (f : Option ℕ) (is : f ≡ pick b (find_from 0 e us) None) where
  pub wire_kept : f ≡ None → pick b (cut_wire e a us) us ≡ us
  wire_kept h = flagged_found b e a us ∙ rw (← is, h)

  module _ (i : ℕ) (h : f ≡ Some i) where
    pub wire_swapped : pick b (cut_wire e a us) us ≡ swap_edge us i (halves_of a (get_or us i 0))
    wire_swapped = flagged_found b e a us ∙ rw (← is, h)

    pub place_found : FoundAt 0 e us i
    place_found = found_at 0 e us i (at_found b e us i (sym is ∙ h))

    pub place_edge : edge_number (get_or us i 0) ≡ e
    place_edge = let z : i - 0 ≡ i = omega arith in rw z at place_found.is

  -- the wire as it is
  module _ (h : f ≡ None) where
    pub kept_room : (at m : ℕ) → at + length (pick b (cut_wire e a us) us) ≤ m → at + length us ≤ m
    kept_room at m l = omega (arith, l, ap length (wire_kept h))

    pub kept_done : (out out' : List ℕ) (at : ℕ) → out' ≡ sets out at us → (length us ≡ length (pick b (cut_wire e a us) us)) × (out' ≡ sets out at (pick b (cut_wire e a us) us))
    kept_done out out' at w = rw (wire_kept h) (refl, w)

  -- the halves in place of a use
  module _ {i : ℕ} (h : f ≡ Some i) {new : List ℕ} (halves : new ≡ halves_of a (get_or us i 0)) where
    swap_long : length (pick b (cut_wire e a us) us) ≡ length us + 1
    swap_long =
        let two = halves_of a (get_or us i 0) in
        ap length (wire_swapped i h)
        ∙ omega (arith, (place_found i h).high, length-append (take i us) (two ++ drop (suc i) us), length-append two (drop (suc i) us), halves_long a (get_or us i 0), length-take i us, length-drop (suc i) us)

    pub swapped_room : (at m : ℕ) → at + length (pick b (cut_wire e a us) us) ≤ m → at + length us + length new ≤ m + 1
    swapped_room at m l = omega (arith, l, swap_long, halves_long a (get_or us i 0), ap length halves)

    pub swapped_done : (fronts backs out out' : List ℕ) (at : ℕ) → Halved fronts backs e a
        → out' ≡ pick (same_ends fronts backs (get_or us i 0) new) (sets out at (swap_edge us i new)) out
        → (length us + 1 ≡ length (pick b (cut_wire e a us) us)) × (out' ≡ sets out at (pick b (cut_wire e a us) us))
    swapped_done fronts backs out out' at s w = (
      sym swap_long,
      w ∙ rw (halves, halves_end fronts backs e a s (get_or us i 0) (place_edge i h), wire_swapped i h),
    )

-- ---- all wires

module _ (change : ℕ → List ℕ → List ℕ) (lens uses : List ℕ) where
  -- the wires from number k on, changed
  abbrev rest : ℕ → List (List ℕ)
  rest k = each_wire change k (drop k (split lens uses))

  -- at wire k, whose uses begin at `from` and are to be written at `at`
  pub record Putting (out₀ lens₀ out outLens : List ℕ) (from at k : ℕ) : Type 0 where
    pub walk : Walk lens k from
    pub out_long : length out ≡ length out₀
    pub lens_long : length outLens ≡ length lens₀
    pub written : sets out₀ 0 (flat (rest 0)) ≡ sets out at (flat (rest k))
    pub measured : sets lens₀ 0 (map length (rest 0)) ≡ sets outLens k (map length (rest k))
    pub size : length (flat (rest 0)) ≡ at + length (flat (rest k))

  pub putting_start : (out lens₀ : List ℕ) → Putting out lens₀ out lens₀ 0 0 0
  putting_start out lens₀ = record {
    walk = walk_start lens;
    out_long = refl;
    lens_long = refl;
    written = refl;
    measured = refl;
    size = omega arith;
  }

  module _ {out₀ lens₀ out outLens : List ℕ} {from at k : ℕ} (s : Putting out₀ lens₀ out outLens from at k) where
    module _ (n : ℕ) (h : k < length lens) (is : n ≡ get_or lens k 0) where
      abbrev here : List ℕ
      here = change k (take (from + n - from) (drop from uses))

      turn : rest k ≡ here ∷ rest (suc k)
      unfolding each_wire
      turn = rw (rest_next lens uses k from n s.walk h is)

      flat_turn : flat (rest k) ≡ here ++ flat (rest (suc k))
      unfolding flat
      flat_turn = rw turn

      -- there is room for the wire
      pub putting_room : length (flat (rest 0)) ≤ length out₀ → at + length here ≤ length out
      putting_room fits = omega (arith, s.size, s.out_long, ap length flat_turn, length-append here (flat (rest (suc k))))

      pub putting_next : (m : ℕ) (out' : List ℕ) → m ≡ length here → out' ≡ sets out at here → Putting out₀ lens₀ out' (set outLens k m) (from + n) (at + m) (k + 1)
      putting_next m out' long e = record {
        walk = walk_next lens k from n s.walk h is;
        out_long = ap length e ∙ length-sets out at here ∙ s.out_long;
        lens_long = length-set outLens k m ∙ s.lens_long;
        written = s.written ∙ rw (flat_turn, e, long, add-one k) (sym (sets_append out at here (flat (rest (suc k)))));
        measured = s.measured ∙ rw (turn, long, add-one k);
        size = rw (add-one k) (omega (arith, s.size, ap length flat_turn, length-append here (flat (rest (suc k))), long));
      }

    module _ (h : length lens ≤ k) where
      none : rest k ≡ []
      unfolding each_wire
      none = rw (rest_none lens uses k from 0 s.walk h)

      flat_none : flat (rest k) ≡ []
      unfolding flat
      flat_none = rw none

      pub putting_out : out ≡ sets out₀ 0 (flat (rest 0))
      putting_out = sym (s.written ∙ rw flat_none)

      pub putting_lens : outLens ≡ sets lens₀ 0 (map length (rest 0))
      putting_lens = sym (s.measured ∙ rw none)

      pub putting_size : at ≡ length (flat (rest 0))
      putting_size = omega (arith, s.size, ap length flat_none)
