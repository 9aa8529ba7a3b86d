-- The loops that write the first points of the wires, link the ends of the uses and the wires of the faces, and compare the roots of the points.
use Prim.Native.Nat.{◌+◌, ◌-◌, ◌<◌, ◌≤◌, ℕ}
use mathlib.Core.Bool.{false, true}
use mathlib.Core.List.Memᴰ
use mathlib.Core.List.{List, [], ◌∷◌, map}
use mathlib.Core.Path.{◌∙◌, ◌≡◌, ap, refl, sym}
use native.Mathlib.Omega.{arith}
use lib.ListN.{drop, get_or, length, length-drop, length-map, length-replicate, length-take, replicate, set, take}
use lib.Seq.{get_or-drop, get_or-take, take_all}
use Rattle.lists.proofs.Laws.{Filling, filling_next, filling_padded, filling_start, map_tabulate, tabulate_get_d}
use Rattle.lists.proofs.Split.{Walk, walk_fits, walk_part}
use Rattle.lists.specs.Lists.{padded, split, tabulate}
use Rattle.edge.specs.Uses.{back_of, front_of}
use Rattle.groups.proofs.Alike.{Under, member_at}
use Rattle.groups.proofs.All.{Joins, Pairs, column_at, joins_end, joins_next}
use Rattle.groups.proofs.Laws.{inside_links}
use Rattle.groups.proofs.Meaning.{of_each}
use Rattle.groups.proofs.Rooting.{one_root_none, one_root_start, rooting_end, rooting_next, rooting_stop}
use Rattle.groups.specs.Forest.{Trees, has_root, joined, joined_all, one_root, root_of, trees}
use Rattle.groups.specs.Groups.{Inside, Link, every, link, links}
use Rattle.connected.proofs.Theorem.{within_rest}
use Rattle.connected.specs.Wired.{Below, Cut, Ended, neighbours}

-- ---- g of each element of a list, written over a list of m zeros; i are written
module _ {A : Type 0} (g : A → ℕ) (d : A) (m : ℕ) (xs : List A) where
  pub record Writing (out : List ℕ) (i : ℕ) : Type 0 where
    pub few : length xs ≤ m
    pub low : i ≤ length xs
    pub filling : Filling (λ (k : ℕ). g (get_or xs k d)) (replicate m 0) out i

  pub writing_start : length xs ≤ m → Writing (replicate m 0) 0
  writing_start h = record { few = h; low = omega arith; filling = filling_start (λ (k : ℕ). g (get_or xs k d)) (replicate m 0) }

  module _ (out : List ℕ) (i : ℕ) (s : Writing out i) where
    pub writing_next : (v : ℕ) → i < length xs → v ≡ g (get_or xs i d) → Writing (set out i v) (i + 1)
    writing_next v h e = record {
      few = s.few;
      low = omega arith;
      filling = filling_next (λ (k : ℕ). g (get_or xs k d)) 0 (replicate m 0) out i v s.filling (omega (arith, s.few, length-replicate {A = ℕ} m 0)) e;
    }

    pub writing_all : length xs ≤ i → out ≡ padded m 0 (map g xs)
    writing_all h =
        let n : i ≡ length xs = omega (arith, s.low) in
        let e : tabulate i (λ (k : ℕ). g (get_or xs k d)) ≡ map g xs =
        rw n (sym (map_tabulate g (length xs) (λ (k : ℕ). get_or xs k d)) ∙ ap (map g) (tabulate_get_d xs d)) in
        rw e at (filling_padded (λ (k : ℕ). g (get_or xs k d)) 0 m out i s.filling)

-- ---- the first use of each wire
abbrev pub first_point : List ℕ → List ℕ → List ℕ → ℕ
first_point fronts backs us = front_of fronts backs (get_or us 0 0)

module _ (uses lens : List ℕ) (c : Cut uses lens) (k at : ℕ) (w : Walk lens k at) (h : k < length lens) where
  -- wire k begins inside the list
  pub first_inside : at < length uses
  first_inside = omega (arith, c.some k h, c.summed, walk_fits lens k at (get_or lens k 0) w h refl)

  pub first_use_lem : get_or uses at 0 ≡ get_or (get_or (split lens uses) k []) 0 0
  first_use_lem =
      let z : at + 0 ≡ at = omega arith in
      let n = at + get_or lens k 0 - at in
      rw (walk_part lens k at (get_or lens k 0) w h refl uses) (sym (get_or-take n (drop at uses) 0 0 (omega (arith, c.some k h)) ∙ get_or-drop at uses 0 0 ∙ rw z))

-- ---- each linked with the next
neighbours_none : (ps : List ℕ) → length ps ≡ 0 → neighbours ps ≡ []
unfolding links
neighbours_none [] e = refl
neighbours_none (p ∷ ps) e = absurd (omega arith)

links_short : (xs ys : List ℕ) → links (take (length ys) xs) ys ≡ links xs ys
unfolding links
links_short [] [] = refl
links_short [] (y ∷ ys) = refl
links_short (x ∷ xs) [] = refl
links_short (x ∷ xs) (y ∷ ys) = ap (λ (L : List Link). link x y ∷ L) (links_short xs ys)

-- all but the last, with all but the first
neighbours_is : (ps : List ℕ) (n : ℕ) → n + 1 ≡ length ps → links (take n ps) (take (length ps - 1) (drop 1 ps)) ≡ neighbours ps
neighbours_is ps n e =
    let m : n ≡ length (drop 1 ps) = omega (arith, length-drop 1 ps) in
    rw (take_all (length ps - 1) (drop 1 ps) (omega (arith, length-drop 1 ps)), m) (links_short ps (drop 1 ps))

-- the same, of what joining them ensures
pub next_none : (ps : List ℕ) (t : Trees) → length ps ≡ 0 → (t.parents ≡ (joined_all t (neighbours ps)).parents) × (t.sizes ≡ (joined_all t (neighbours ps)).sizes)
unfolding joined_all
next_none ps t e = rw (neighbours_none ps e) (refl, refl)

pub next_joined : (ps : List ℕ) (n : ℕ) (t : Trees) {xs ys : List ℕ} → n + 1 ≡ length ps
    → (xs ≡ (joined_all t (links (take n ps) (take (length ps - 1) (drop 1 ps)))).parents) × (ys ≡ (joined_all t (links (take n ps) (take (length ps - 1) (drop 1 ps)))).sizes)
    → (xs ≡ (joined_all t (neighbours ps)).parents) × (ys ≡ (joined_all t (neighbours ps)).sizes)
next_joined ps n t e o = rw (neighbours_is ps n e) at o

pub inside_neighbours : (n : ℕ) (ps : List ℕ) → Below n ps → Inside n (neighbours ps)
inside_neighbours n ps b =
    let u : Under n ps = of_each (λ (x : ℕ). x < n) 0 ps b in
    inside_links n ps (drop 1 ps) u (λ x m. u x (within_rest ps x m))

pub below_part : (n : ℕ) (ps : List ℕ) (at m : ℕ) → Below n ps → Below n (take m (drop at ps))
below_part n ps at m b k h =
    let l = length-take m (drop at ps) in
    let d = length-drop at ps in
    rw (get_or-take m (drop at ps) k 0 (omega (arith, l)), get_or-drop at ps k 0) (b (at + k) (omega (arith, l, d)))

-- what joining all but the last with all but the first asks
pub next_pairs : (m : ℕ) (ps : List ℕ) (n : ℕ) → Below m ps → n + 1 ≡ length ps → Pairs m (take n ps) (take (length ps - 1) (drop 1 ps))
next_pairs m ps n b e = (
  omega (arith, length-take n ps, length-take (length ps - 1) (drop 1 ps), length-drop 1 ps),
  λ k h. (
    below_part m ps 0 n b k h,
    below_part m ps 1 (length ps - 1) b k (omega (arith, length-take n ps, length-take (length ps - 1) (drop 1 ps), length-drop 1 ps)),
  ),
)

-- ---- the ends of the uses
module _ {A : Type 0} where
  below_map : (n : ℕ) (d : A) (g : A → ℕ) (xs : List A) → ((k : ℕ) → k < length xs → g (get_or xs k d) < n) → Below n (map g xs)
  below_map n d g xs b k h =
      let r = Memᴰ.of_map g xs (member_at 0 (map g xs) k h) in
      rw (← r.2) (of_each (λ (x : A). g x < n) d xs b r.0 r.1)

module _ {n : ℕ} {uses fronts backs : List ℕ} (h : Ended n uses fronts backs) where
  pub ended_pairs : Pairs n (map (front_of fronts backs) uses) (map (back_of fronts backs) uses)
  ended_pairs =
      let f = length-map uses (front_of fronts backs) in
      let b = length-map uses (back_of fronts backs) in
      (omega (arith, f, b), λ k l. (below_map n 0 (front_of fronts backs) uses h.starts k l, below_map n 0 (back_of fronts backs) uses h.ends k (omega (arith, f, b))))

-- one more use links its ends
pub uses_next : {n : ℕ} {uses fronts backs ps₀ ss₀ ps ss : List ℕ} {k : ℕ} → Ended n uses fronts backs
    → Joins n (map (front_of fronts backs) uses) (map (back_of fronts backs) uses) ps₀ ss₀ ps ss k → k < length uses
    → {x y : ℕ} → x ≡ front_of fronts backs (get_or uses k 0) → y ≡ back_of fronts backs (get_or uses k 0)
    → {ps' ss' : List ℕ} → (ps' ≡ (joined ps ss x y).parents) × (ss' ≡ (joined ps ss x y).sizes)
    → Joins n (map (front_of fronts backs) uses) (map (back_of fronts backs) uses) ps₀ ss₀ ps' ss' (k + 1)
uses_next {n} {uses} {fronts} {backs} {ps₀} {ss₀} {ps} {ss} {k} d j h {x} {y} e f {ps'} {ss'} o =
    let at_front : x ≡ get_or (map (front_of fronts backs) uses) k 0 = e ∙ sym (column_at (front_of fronts backs) uses k h) in
    let at_back : y ≡ get_or (map (back_of fronts backs) uses) k 0 = f ∙ sym (column_at (back_of fronts backs) uses k h) in
    joins_next n (map (front_of fronts backs) uses) (map (back_of fronts backs) uses) ps₀ ss₀ ps ss k (ended_pairs d) j (omega (arith, length-map uses (front_of fronts backs)))
    (rw (at_front, at_back) at o)

pub uses_end : {n : ℕ} {uses fronts backs ps₀ ss₀ ps ss : List ℕ} {k : ℕ} → Ended n uses fronts backs
    → Joins n (map (front_of fronts backs) uses) (map (back_of fronts backs) uses) ps₀ ss₀ ps ss k → length uses ≤ k
    → (ps ≡ (joined_all (trees ps₀ ss₀) (links (map (front_of fronts backs) uses) (map (back_of fronts backs) uses))).parents)
    × (ss ≡ (joined_all (trees ps₀ ss₀) (links (map (front_of fronts backs) uses) (map (back_of fronts backs) uses))).sizes)
uses_end {n} {uses} {fronts} {backs} {ps₀} {ss₀} {ps} {ss} {k} d j h =
    joins_end n (map (front_of fronts backs) uses) (map (back_of fronts backs) uses) ps₀ ss₀ ps ss k (ended_pairs d) j (omega (arith, length-map uses (front_of fronts backs)))

-- ---- the roots of the points that the uses begin at; those of i are r
pub record Rooting (g : ℕ → ℕ) (ps uses : List ℕ) (r i : ℕ) : Type 0 where
  pub low : i ≤ length uses
  pub is : one_root ps (map g uses) ≡ every (has_root ps r) (drop i (map g uses))

module _ (g : ℕ → ℕ) (ps uses : List ℕ) where
  pub roots_none : length uses ≡ 0 → true ≡ one_root ps (map g uses)
  roots_none e = sym (one_root_none ps (map g uses) (length-map uses g ∙ e))

  pub roots_start : {r : ℕ} → 0 < length uses → r ≡ root_of ps (g (get_or uses 0 0)) → Rooting g ps uses r 1
  roots_start {r} h e = record {
    low = h;
    is = one_root_start ps (map g uses) r (omega (arith, length-map uses g)) (e ∙ ap (root_of ps) (sym (column_at g uses 0 h)));
  }

  module _ {r i : ℕ} (s : Rooting g ps uses r i) where
    module _ (h : i < length uses) {x : ℕ} (e : x ≡ root_of ps (g (get_or uses i 0))) where
      root_here : root_of ps (get_or (map g uses) i 0) ≡ x
      root_here = ap (root_of ps) (column_at g uses i h) ∙ sym e

      pub roots_stop : (x ≡ r → ⊥) → false ≡ one_root ps (map g uses)
      roots_stop ne = sym (s.is ∙ rooting_stop ps (map g uses) r i (omega (arith, length-map uses g)) (λ o. ne (sym root_here ∙ o)))

      pub roots_next : x ≡ r → Rooting g ps uses r (i + 1)
      roots_next o = record {
        low = omega arith;
        is = s.is ∙ rooting_next ps (map g uses) r i (omega (arith, length-map uses g)) (root_here ∙ o);
      }

    pub roots_end : length uses ≤ i → true ≡ one_root ps (map g uses)
    roots_end h = sym (s.is ∙ rooting_end ps (map g uses) r i (omega (arith, length-map uses g)))

-- the links of the wires of one face are between members
pub inside_part : (n : ℕ) (firsts : List ℕ) (at m : ℕ) → Below n firsts → Inside n (neighbours (take m (drop at firsts)))
inside_part n firsts at m b = inside_neighbours n (take m (drop at firsts)) (below_part n firsts at m b)
