-- The flags and the wires of a shell: what is said by flags is what the definitions say.
use Rattle.std.specs.Prelude.{None, Option, Some, is_some}
use Prim.Native.Nat.{◌+◌, ◌<◌, suc, zero, ℕ}
use mathlib.Core.Bool.{Bool, ◌&&◌, ◌||◌, false, or-true, true, true≢false}
use mathlib.Core.List.{List, [], ◌++◌, ◌∷◌, map, map-append}
use mathlib.Core.Logic.{⊎_elim}
use mathlib.Core.Path.{◌∙◌, ◌≡◌, ap, refl, sym}
use native.Mathlib.Nat.{add-zero, le_of_suc-le-suc, not-suc-le-zero}
use native.Mathlib.Omega.{arith}
use lib.Dec.{eqb, ltb}
use lib.ListN.{get_or-eq_default, drop, get_or, length, length-append, length-drop, length-take, take}
use borrow.Author.Tests.{eq-eqb, eqb-true, lt-ltb, ltb-false, ltb-true}
use Rattle.cut_edge_faults.proofs.Flags.{cuts_next, cuts_none, found_at, found_has, has_next, has_none}
use Rattle.cut_edge_wires.proofs.Halves.{halves_long}
use Rattle.cut_edge_wires.specs.Halves.{cut_flagged}
use Rattle.cut_edge_faults.specs.Flags.{cuts_where, uses_where}
use Rattle.edge.specs.Uses.{edge_number}
use Rattle.lists.proofs.Count.{bit}
use Rattle.lists.proofs.Laws.{cases, has_append, left_true, right_true}
use Rattle.lists.specs.Lists.{flat, has, pick}
use Rattle.shell_edits.specs.Edits.{cut_wire, each_wire, halves_of, swap_found}
use Rattle.wire.specs.Wires.{find_from}

both_ways : (a b : Bool) → (a ≡ true → b ≡ true) → (b ≡ true → a ≡ true) → a ≡ b
both_ways true b f g = sym (f refl)
both_ways false true f g = g refl
both_ways false false f g = refl

either : (a b c : Bool) → (a ≡ true → c ≡ true) → (b ≡ true → c ≡ true) → (a || b) ≡ true → c ≡ true
either true b c f g h = f refl
either false b c f g h = g h

-- a number among those of several lists
module _ (f : ℕ → ℕ) (v : ℕ) (g : ℕ → List ℕ) where
  has_flat : (w : ℕ) (ws : List ℕ) → has v (map f (flat (map g (w ∷ ws)))) ≡ (has v (map f (g w)) || has v (map f (flat (map g ws))))
  unfolding flat
  has_flat w ws = rw (map-append f (g w) (flat (map g ws)), has_append v (map f (g w)) (map f (flat (map g ws))))

  flat_here : (ws : List ℕ) (w : ℕ) → has w ws ≡ true → has v (map f (g w)) ≡ true → has v (map f (flat (map g ws))) ≡ true
  unfolding has
  flat_here [] w h t = absurd (true≢false (sym h))
  flat_here (x ∷ ws) w h t =
      has_flat x ws ∙ either (eqb w x) (has w ws) (has v (map f (g x)) || has v (map f (flat (map g ws))))
      (λ (e : eqb w x ≡ true). let same : w ≡ x = eqb-true w x e in let u : has v (map f (g x)) ≡ true = rw (← same) t in rw u)
      (λ (e : has w ws ≡ true). rw (flat_here ws w e t, or-true))
      h

  flat_some : (b : Bool) (ws : List ℕ) → ((w : ℕ) → has w ws ≡ true → has v (map f (g w)) ≡ true → b ≡ true) → has v (map f (flat (map g ws))) ≡ true → b ≡ true
  unfolding has flat
  flat_some b [] k h = absurd (true≢false (sym h))
  flat_some b (x ∷ ws) k h =
      either (has v (map f (g x))) (has v (map f (flat (map g ws)))) b
      (k x (rw (eq-eqb x x refl)))
      (flat_some b ws (λ w e. k w (rw (e, or-true))))
      (sym (has_flat x ws) ∙ h)

module _ (flags : List Bool) (f : ℕ → ℕ) (v : ℕ) where
  flagged_here : (wires : List (List ℕ)) (k w : ℕ) → w < length wires → get_or flags (k + w) false ≡ true → has v (map f (get_or wires w [])) ≡ true
      → has v (map f (uses_where flags k wires)) ≡ true
  flagged_here [] k w l h t = absurd (not-suc-le-zero l)
  flagged_here (us ∷ wires) k zero l h t =
      let on : get_or flags k false ≡ true = rw (add-zero k) at h in
      has_next flags f v k us wires ∙ rw (on, t)
  flagged_here (us ∷ wires) k (suc w) l h t =
      let e : k + suc w ≡ suc k + w = omega arith in
      has_next flags f v k us wires ∙ rw (flagged_here wires (suc k) w (le_of_suc-le-suc l) (rw e at h) t, or-true)

  flagged_some : (b : Bool) (wires : List (List ℕ)) (k : ℕ)
      → ((w : ℕ) → w < length wires → get_or flags (k + w) false ≡ true → has v (map f (get_or wires w [])) ≡ true → b ≡ true)
      → has v (map f (uses_where flags k wires)) ≡ true → b ≡ true
  flagged_some b [] k g h = absurd (true≢false (sym h ∙ has_none flags f v k))
  flagged_some b (us ∷ wires) k g h =
      either (get_or flags k false && has v (map f us)) (has v (map f (uses_where flags (suc k) wires))) b
      (λ (t : (get_or flags k false && has v (map f us)) ≡ true).
      let z : k + 0 ≡ k = omega arith in
      g 0 (omega arith) (rw z (left_true (get_or flags k false) (has v (map f us)) t)) (right_true (get_or flags k false) (has v (map f us)) t))
      (flagged_some b wires (suc k) (λ w l t. let e : k + suc w ≡ suc k + w = omega arith in g (suc w) (omega arith) (rw e t)))
      (sym (has_next flags f v k us wires) ∙ h)

  inside : (wires : List (List ℕ)) (w : ℕ) → has v (map f (get_or wires w [])) ≡ true → w < length wires
  unfolding has
  inside wires w t =
      ⊎_elim
      (λ (b : ltb w (length wires) ≡ true). ltb-true w (length wires) b)
      (λ (b : ltb w (length wires) ≡ false). absurd (true≢false (sym t ∙ rw (get_or-eq_default wires [] (ltb-false w (length wires) b)))))
      (cases (ltb w (length wires)))

  -- the uses of the wires numbered in ws are those of the flagged wires
  pub uses_flagged : (ws : List ℕ) (wires : List (List ℕ)) → ((w : ℕ) → w < length wires → get_or flags w false ≡ has w ws)
      → has v (map f (flat (map (λ (w : ℕ). get_or wires w []) ws))) ≡ has v (map f (uses_where flags 0 wires))
  uses_flagged ws wires same =
      let z : (w : ℕ) → 0 + w ≡ w = λ w. omega arith in
      both_ways (has v (map f (flat (map (λ (w : ℕ). get_or wires w []) ws)))) (has v (map f (uses_where flags 0 wires)))
      (flat_some f v (λ (w : ℕ). get_or wires w []) (has v (map f (uses_where flags 0 wires))) ws
      (λ w e t. flagged_here wires 0 w (inside wires w t) (rw (z w) (same w (inside wires w t) ∙ e)) t))
      (flagged_some (has v (map f (flat (map (λ (w : ℕ). get_or wires w []) ws)))) wires 0
      (λ w l t h. flat_here f v (λ (w : ℕ). get_or wires w []) ws w (sym (same w l) ∙ rw (z w) at t) h))

-- ---- what the cut does to the number of uses

module _ (e a : ℕ) (us : List ℕ) where
  swapped_long : (f : Option ℕ) → f ≡ find_from 0 e us → length (swap_found a us f) ≡ length us + bit (is_some f)
  swapped_long None h = omega arith
  swapped_long (Some j) h =
      let new = halves_of a (get_or us j 0) in
      omega (arith, (found_at 0 e us j (sym h)).high, length-append (take j us) (new ++ drop (suc j) us), length-append new (drop (suc j) us), halves_long a (get_or us j 0), length-take j us, length-drop (suc j) us)

  cut_long : length (cut_wire e a us) ≡ length us + bit (has e (map edge_number us))
  cut_long = swapped_long (find_from 0 e us) refl ∙ ap (λ (b : Bool). length us + bit b) (found_has 0 e us)

  flagged_long : (b : Bool) → length (pick b (cut_wire e a us) us) ≡ length us + bit (b && has e (map edge_number us))
  flagged_long true = cut_long
  flagged_long false = omega arith

module _ (flags : List Bool) (e a : ℕ) where
  pub cuts_long : (k : ℕ) (wires : List (List ℕ)) → length (flat (each_wire (cut_flagged flags e a) k wires)) ≡ length (flat wires) + cuts_where flags e k wires
  unfolding flat each_wire
  cuts_long k [] = rw (cuts_none flags e k)
  cuts_long k (us ∷ wires) =
      omega (arith, length-append (cut_flagged flags e a k us) (flat (each_wire (cut_flagged flags e a) (suc k) wires)), length-append us (flat wires), flagged_long e a us (get_or flags k false), cuts_next flags e k us wires, cuts_long (suc k) wires)

one_more : (b : Bool) (n : ℕ) → (b || ltb 0 n) ≡ ltb 0 (bit b + n)
one_more true n = sym (lt-ltb 0 (1 + n) (omega arith))
one_more false n = let z : 0 + n ≡ n = omega arith in rw z

-- a flagged wire has a use of the edge exactly if there are wires to cut
pub cuts_has : (flags : List Bool) (e k : ℕ) (wires : List (List ℕ)) → has e (map edge_number (uses_where flags k wires)) ≡ ltb 0 (cuts_where flags e k wires)
cuts_has flags e k [] = rw (cuts_none flags e k) (has_none flags edge_number e k)
cuts_has flags e k (us ∷ wires) =
    has_next flags edge_number e k us wires
    ∙ rw (cuts_has flags e (suc k) wires, cuts_next flags e k us wires) (one_more (get_or flags k false && has e (map edge_number us)) (cuts_where flags e (suc k) wires))

-- ---- each wire changed

pub each_same : (f g : ℕ → List ℕ → List ℕ) (k : ℕ) (wires : List (List ℕ)) → ((w : ℕ) (us : List ℕ) → w < k + length wires → f w us ≡ g w us)
    → each_wire f k wires ≡ each_wire g k wires
unfolding each_wire
each_same f g k [] h = refl
each_same f g k (us ∷ wires) h = rw (h k us (omega arith), each_same f g (suc k) wires (λ w vs l. h w vs (omega arith)))
