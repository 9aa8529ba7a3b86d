-- One wire, and all wires, after the removal.
use Prim.Native.Nat.{◌+◌, ◌-◌, ◌<◌, ◌≤◌, suc, ℕ}
use Prim.{⊥}
use mathlib.Core.Bool.{false, true}
use mathlib.Core.List.{List, [], ◌++◌, ◌∷◌, map, map-append}
use mathlib.Core.Logic.{⊎_elim}
use mathlib.Core.Path.{◌∙◌, ◌≡◌, ap, refl, sym}
use native.Mathlib.Numerals.{add-one}
use native.Mathlib.Omega.{arith}
use lib.Dec.{eqb}
use lib.ListN.{drop, get_or, length, length-append, length-drop, length-map, set, take}
use lib.Seq.{length-sets, length-take-le, sets, take_all, take-suc}
use borrow.Author.Tests.{eq-eqb, eqb-false, eqb-true, lt-leb, ne_eqb}
use Rattle.lists.proofs.Laws.{cases, length_split, sum_take_drop}
use Rattle.lists.proofs.Sets.{flat_next, sets_then}
use Rattle.lists.proofs.Split.{Walk, walk_fits, walk_next, walk_part, walk_start}
use Rattle.lists.specs.Lists.{flat, rotated, split, sum}
use Rattle.remove_vertex_corners.specs.Corners.{joined_wire, place_of, removed_wire}
use Rattle.remove_vertex_corners.specs.declared.Ending.{Ending}
use Rattle.shell.proofs.Shown.{length_rotated}
use Rattle.shell_edits.proofs.Remove.{get_d_each_wire}
use Rattle.shell_edits.proofs.Wires.{each_long}
use Rattle.shell_edits.specs.Edits.{each_wire}
use Rattle.wire_swaps.specs.Swaps.{swap_pair, swap_subwire}

-- ---- lengths
pair_long : (us : List ℕ) (i u : ℕ) → i + 2 ≤ length us → length (swap_pair us i u) ≡ length us - 1
pair_long us i u h =
    omega (arith, length-append (take i us) (u ∷ drop (i + 2) us), length-take-le i us (omega arith), length-drop (i + 2) us)

swap_long : (us : List ℕ) (i u : ℕ) → i < length us → 2 ≤ length us → length (swap_subwire us i u) ≡ length us - 1
swap_long us i u h l =
    ⊎_elim
    (λ (t : eqb (i + 1) (length us) ≡ true). let e = eqb-true (i + 1) (length us) t in rw t (pair_long (rotated us) (i - 1) u (omega (arith, length_rotated us)) ∙ ap (λ (k : ℕ). k - 1) (length_rotated us)))
    (λ (t : eqb (i + 1) (length us) ≡ false). rw t (pair_long us i u (omega (arith, eqb-false (i + 1) (length us) t))))
    (cases (eqb (i + 1) (length us)))

module _ (fronts backs : List ℕ) (v u : ℕ) (us l : List ℕ) (at : ℕ) {i : ℕ} (is : i ≡ place_of fronts backs v us) (h : i < length us) (two : 2 ≤ length us) where
  -- what a function that writes a wire owes: the list after it, and the wire's length
  pub joined_written : {out : List ℕ} → out ≡ sets l at (swap_subwire us i u)
      → (out ≡ sets l at (joined_wire fronts backs v u us)) × ((length us - 1 ≡ length (joined_wire fronts backs v u us)) × (length us - 1 ≤ length us))
  joined_written e = (rw (← is) e, (rw (← is) (sym (swap_long us i u h two)), omega arith))

abbrev pub Written : List ℕ → List ℕ → ℕ → List ℕ → ℕ → List ℕ → Type 0
Written us l at out n ws = (out ≡ sets l at ws) × ((n ≡ length ws) × (n ≤ length us))

module _ (fronts backs : List ℕ) (v : ℕ) (e : Ending) (a w : ℕ) (us l : List ℕ) (at : ℕ) (out : List ℕ) (n : ℕ) where
  pub written_last : w ≡ e.last → Written us l at out n (joined_wire fronts backs v a us) → Written us l at out n (removed_wire fronts backs v e a w us)
  written_last h x = rw (eq-eqb w e.last h) x

  module _ (m : w ≡ e.last → ⊥) where
    pub written_first : w ≡ e.first → a < 1024 → Written us l at out n (joined_wire fronts backs v (a + 32768) us)
        → Written us l at out n (removed_wire fronts backs v e a w us)
    written_first h s x = rw (ne_eqb w e.last m, eq-eqb w e.first h, lt-leb 32768 a (omega arith)) x

    pub written_other : (w ≡ e.first → ⊥) → Written us l at out n us → Written us l at out n (removed_wire fronts backs v e a w us)
    written_other h x = rw (ne_eqb w e.last m, ne_eqb w e.first h) x

-- ---- all wires
flat_id : (xss : List (List ℕ)) → map (λ (xs : List ℕ). xs) xss ≡ xss
flat_id [] = refl
flat_id (xs ∷ xss) = ap (λ (r : List (List ℕ)). xs ∷ r) (flat_id xss)

module _ (change : ℕ → List ℕ → List ℕ) (wires uses out₀ lens₀ : List ℕ) where
  abbrev pub changed : List (List ℕ)
  changed = each_wire change 0 (split wires uses)

  -- a loop that writes them: `from` is where wire w begins, `at` where it goes
  pub record Putting (out lens : List ℕ) (from at w : ℕ) : Type 0 where
    pub walk : Walk wires w from
    pub less : at ≤ from
    pub long : at ≡ length (flat (take w changed))
    pub out_is : out ≡ sets out₀ 0 (flat (take w changed))
    pub lens_is : lens ≡ sets lens₀ 0 (map length (take w changed))

  pub putting_start : Putting out₀ lens₀ 0 0 0
  unfolding flat
  putting_start = record { walk = walk_start wires; less = omega arith; long = refl; out_is = refl; lens_is = refl }

  changed_long : length changed ≡ length wires
  changed_long = each_long change 0 (split wires uses) ∙ length_split wires uses

  module _ {out lens : List ℕ} {from at w : ℕ} (s : Putting out lens from at w) where
    pub out_long : length out ≡ length out₀
    out_long = ap length s.out_is ∙ length-sets out₀ 0 (flat (take w changed))

    pub lens_long : length lens ≡ length lens₀
    lens_long = ap length s.lens_is ∙ length-sets lens₀ 0 (map length (take w changed))

    module _ (h : w < length wires) {n : ℕ} (is : n ≡ get_or wires w 0) (fits : sum wires ≡ length uses) where
      pub putting_fits : from + n ≤ length uses
      putting_fits = omega (arith, walk_fits wires w from n s.walk h is)

      pub putting_long : length (take (from + n - from) (drop from uses)) ≡ n
      putting_long = let e : from + n - from ≡ n = omega arith in rw e (length-take-le n (drop from uses) (omega (arith, length-drop from uses, putting_fits)))

      pub putting_next : {m : ℕ} {out' : List ℕ} → Written (take (from + n - from) (drop from uses)) out at out' m (change w (take (from + n - from) (drop from uses)))
          → Putting out' (set lens w m) (from + n) (at + m) (w + 1)
      putting_next {m} {out'} x =
          let us = take (from + n - from) (drop from uses) in
          let inside : w < length changed = omega (arith, changed_long) in
          let z : 0 + w ≡ w = omega arith in
          let here : get_or changed w [] ≡ change w us =
          rw (z, walk_part wires w from n s.walk h is uses) at (get_d_each_wire change 0 (split wires uses) w (omega (arith, length_split wires uses))) in
          let more : flat (take (w + 1) changed) ≡ flat (take w changed) ++ change w us =
          rw (add-one, ← here) (rw (flat_id (take (suc w) changed), flat_id (take w changed)) at (flat_next (λ (xs : List ℕ). xs) changed w [] inside)) in
          let lengths : map length (take (w + 1) changed) ≡ map length (take w changed) ++ (m ∷ []) =
          rw (add-one, take-suc changed w [] inside, here, x.1.0) (map-append length (take w changed) (change w us ∷ [])) in
          let few : length (map length (take w changed)) ≡ w = length-map (take w changed) length ∙ length-take-le w changed (omega arith) in
          record {
            walk = walk_next wires w from n s.walk h is;
            less = omega (arith, s.less, x.1.1, putting_long);
            long = rw more (omega (arith, s.long, x.1.0, length-append (flat (take w changed)) (change w us)));
            out_is = rw more (sets_then out₀ 0 (flat (take w changed)) (change w us) at (omega (arith, s.long)) s.out_is x.0);
            lens_is = rw lengths (sets_then lens₀ 0 (map length (take w changed)) (m ∷ []) w (omega (arith, few)) s.lens_is refl);
          }

    pub putting_all : length wires ≤ w → sum wires ≡ length uses
        → (out ≡ sets out₀ 0 (flat changed)) × ((lens ≡ sets lens₀ 0 (map length changed)) × ((at ≡ length (flat changed)) × (at ≤ length uses)))
    putting_all h fits =
        let e : take w changed ≡ changed = take_all w changed (omega (arith, changed_long)) in
        (rw e at s.out_is, (rw e at s.lens_is, (rw e at s.long, omega (arith, s.less, s.walk.here, sum_take_drop w wires))))
