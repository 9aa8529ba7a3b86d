-- Halved uses have the singular points of the uses: at an old point the half stands for the edge, and at the new point the two halves are neighbours.
use Prim.Native.Nat.{◌*◌, ◌+◌, ◌<◌, ◌≤◌, ℕ}
use mathlib.Core.Bool.{Bool, false, not, true}
use mathlib.Core.List.{List, Memᴰ, [], ◌++◌, ◌∷◌, append-nil, map, map-append, reverse}
use mathlib.Core.Logic.{◌⊎◌, inl, inr, ⊎_elim}
use mathlib.Core.Path.{◌∙◌, ◌≡◌, ap, refl, sym}
use native.Mathlib.Omega.{arith}
use lib.Dec.{eqb, leb, ltb}
use lib.ListN.{drop, get_or}
use borrow.Author.Tests.{eq-eqb, eqb-false, eqb-true, le-leb, le-ltb, lt-leb, lt-ltb, ne_eqb}
use Rattle.edge.specs.Uses.{edge_number}
use Rattle.groups.proofs.Alike.{Under, in_flat, in_flat_map, of_flat, of_flat_map}
use Rattle.groups.proofs.Meaning.{back as turn, chain, linked_one_group}
use Rattle.groups.specs.Groups.{Inside, Link, Linked, against, along, here, link, links, one_group}
use Rattle.lists.proofs.Count.{All, all_each, all_weaker}
use Rattle.lists.proofs.Laws.{cases, flat_append}
use Rattle.lists.proofs.Parts.{all_flat, only_same}
use Rattle.lists.specs.Lists.{flat, numbers, pick, rotated}
use Rattle.shell.proofs.Level.{IsUse}
use Rattle.shell.specs.Singular.{corners, ends_at, ends_of, first_end, is_singular, last_end, singular_of}
use Rattle.shell_edits.proofs.KeepsGroups.{Carries, Side, all_member, of_links, one_group_kept}
use Rattle.shell_edits.proofs.KeepsShell.{Apart, Clear, Ends}
use Rattle.shell_edits.proofs.KeepsUses.{by_kind, flat_made}
use Rattle.shell_edits.specs.Keeps.{halve, halved}

-- ---- the ends of edge k, where its uses begin and end
module _ (k : ℕ) (low : k < 32768) where
  first_plain : first_end k ≡ 2 * k
  first_plain = rw (lt-leb 32768 k low) (omega arith)

  last_plain : last_end k ≡ 2 * k + 1
  last_plain = rw (lt-leb 32768 k low) (omega arith)

  first_reversed : first_end (k + 32768) ≡ 2 * k + 1
  first_reversed = rw (le-leb 32768 (k + 32768) (omega arith)) (omega arith)

  last_reversed : last_end (k + 32768) ≡ 2 * k
  last_reversed = rw (le-leb 32768 (k + 32768) (omega arith)) (omega arith)

-- the ends of the edge of a use
Of : ℕ → ℕ → Type 0
Of u x = (2 * edge_number u ≤ x) × (x < 2 * edge_number u + 2)

first_of : (u : ℕ) → Of u (first_end u)
unfolding Of
first_of u =
    ⊎_elim (λ (r : leb 32768 u ≡ true). rw r (omega arith, omega arith)) (λ (r : leb 32768 u ≡ false). rw r (omega arith, omega arith)) (cases (leb 32768 u))

last_of : (u : ℕ) → Of u (last_end u)
unfolding Of
last_of u =
    ⊎_elim (λ (r : leb 32768 u ≡ true). rw r (omega arith, omega arith)) (λ (r : leb 32768 u ≡ false). rw r (omega arith, omega arith)) (cases (leb 32768 u))

-- ---- the corners of a wire, from use to use
abbrev corner : ℕ → ℕ → Link
corner u v = link (last_end u) (first_end v)

steps : ℕ → List ℕ → ℕ → List Link
steps u [] v = corner u v ∷ []
steps u (w ∷ us) v = corner u w ∷ steps w us v

corners_steps : (u : ℕ) (us : List ℕ) → corners (u ∷ us) ≡ steps u us u
unfolding corners links steps
corners_steps u us = go u us u
  where
    go : (x : ℕ) (ws : List ℕ) (v : ℕ) → links (last_end x ∷ map last_end ws) (map first_end (ws ++ (v ∷ []))) ≡ steps x ws v
    go x [] v = refl
    go x (w ∷ ws) v = ap (λ (L : List Link). corner x w ∷ L) (go w ws v)

corners_ends : (us : List ℕ) (l : Link) → Memᴰ l (corners us)
    → ((u : ℕ) × Memᴰ u us × (last_end u ≡ l.a)) × ((v : ℕ) × Memᴰ v us × (first_end v ≡ l.b))
unfolding corners
corners_ends us l m =
    let r = of_links (map last_end us) (map first_end (rotated us)) l m in
    let s = mathlib.Core.List.Memᴰ.of_map first_end (rotated us) r.1 in
    (mathlib.Core.List.Memᴰ.of_map last_end us r.0, (s.0, round us s.0 s.1, s.2))
  where
    round : (ws : List ℕ) (v : ℕ) → Memᴰ v (rotated ws) → Memᴰ v ws
    round [] v o = o
    round (w ∷ ws) v o =
        ⊎_elim (λ (i : Memᴰ v ws). mathlib.Core.List.Memᴰ.tail i) (λ (i : Memᴰ v (w ∷ [])). mathlib.Core.List.Memᴰ.head (mathlib.Core.List.Memᴰ.eq_of_singleton i)) (mathlib.Core.List.Memᴰ.append_cases ws o)

no_corner : (l : Link) → Memᴰ l (corners []) → ⊥
unfolding corners links
no_corner l m = mathlib.Core.List.Memᴰ.not-nil m

-- links and members of wires whose uses name one of m edges
module _ (m : ℕ) (wires : List (List ℕ)) (named : (u : ℕ) → Memᴰ u (flat wires) → edge_number u < m) where
  corners_inside : Inside (2 * m) (flat (map corners wires))
  unfolding Of
  corners_inside l o =
      let r = of_flat_map corners wires o in
      let s = corners_ends r.0 l r.2 in
      let x = named s.0.0 (in_flat wires r.1 s.0.1) in
      let y = named s.1.0 (in_flat wires r.1 s.1.1) in
      (omega (arith, s.0.2, x, (last_of s.0.0).1), omega (arith, s.1.2, y, (first_of s.1.0).1))

-- one of the two ends of a use is at q
of_ends : (front back : ℕ → ℕ) (q u x : ℕ) → Memᴰ x (ends_of front back q u) → ((front u ≡ q) × (x ≡ first_end u)) ⊎ ((back u ≡ q) × (x ≡ last_end u))
of_ends front back q u x m =
    ⊎_elim
    (λ (o : Memᴰ x (pick (eqb (front u) q) (first_end u ∷ []) [])). let r = one (front u) (first_end u) o in inl r)
    (λ (o : Memᴰ x (pick (eqb (back u) q) (last_end u ∷ []) [])). let r = one (back u) (last_end u) o in inr r)
    (mathlib.Core.List.Memᴰ.append_cases (pick (eqb (front u) q) (first_end u ∷ []) []) m)
  where
    one : (y z : ℕ) → Memᴰ x (pick (eqb y q) (z ∷ []) []) → (y ≡ q) × (x ≡ z)
    one y z o =
        ⊎_elim
        (λ (e : eqb y q ≡ true). (eqb-true y q e, mathlib.Core.List.Memᴰ.eq_of_singleton (rw e at o)))
        (λ (e : eqb y q ≡ false). let none : Memᴰ x [] = rw e at o in absurd (mathlib.Core.List.Memᴰ.not-nil none))
        (cases (eqb y q))

ends_under : (front back : ℕ → ℕ) (q m : ℕ) (us : List ℕ) → ((u : ℕ) → Memᴰ u us → edge_number u < m) → Under (2 * m) (ends_at front back q us)
unfolding ends_at Of
ends_under front back q m us named x o =
    let r = of_flat_map (ends_of front back q) us o in
    let u = r.0 in
    let l = named u r.1 in
    ⊎_elim
    (λ (s : (front u ≡ q) × (x ≡ first_end u)). omega (arith, s.1, l, (first_of u).1))
    (λ (s : (back u ≡ q) × (x ≡ last_end u)). omega (arith, s.1, l, (last_of u).1))
    (of_ends front back q u x r.2)

-- ---- edge e, and its halves a and a + 1
module _ (e a : ℕ) (inside : e < a) (few : a + 2 ≤ 32768) where
  -- the end of a half that stands for an end of the edge; any other end stays
  half_end : ℕ → ℕ
  half_end x = pick (eqb x (2 * e)) (2 * a) (pick (eqb x (2 * e + 1)) (2 * (a + 1) + 1) x)

  -- and back, the inner ends of the halves with the first
  whole_end : ℕ → ℕ
  whole_end x = pick (ltb x (2 * a)) x (pick (eqb x (2 * (a + 1) + 1)) (2 * e + 1) (2 * e))

  half_first : half_end (2 * e) ≡ 2 * a
  unfolding half_end
  half_first = rw (eq-eqb (2 * e) (2 * e) refl)

  half_last : half_end (2 * e + 1) ≡ 2 * (a + 1) + 1
  unfolding half_end
  half_last = rw (ne_eqb (2 * e + 1) (2 * e) (λ z. omega (arith, z)), eq-eqb (2 * e + 1) (2 * e + 1) refl)

  half_other : (u x : ℕ) → eqb (edge_number u) e ≡ false → Of u x → half_end x ≡ x
  unfolding half_end Of
  half_other u x is o =
      let apart = eqb-false (edge_number u) e is in
      rw (ne_eqb x (2 * e) (λ z. apart (omega (arith, z, o.0, o.1))), ne_eqb x (2 * e + 1) (λ z. apart (omega (arith, z, o.0, o.1))))

  whole_old : (x : ℕ) → x < 2 * a → whole_end x ≡ x
  unfolding whole_end
  whole_old x h = rw (lt-ltb x (2 * a) h)

  whole_last : whole_end (2 * (a + 1) + 1) ≡ 2 * e + 1
  unfolding whole_end
  whole_last = rw (le-ltb (2 * (a + 1) + 1) (2 * a) (omega arith), eq-eqb (2 * (a + 1) + 1) (2 * (a + 1) + 1) refl)

  whole_first : (x : ℕ) → 2 * a ≤ x → x < 2 * a + 3 → whole_end x ≡ 2 * e
  unfolding whole_end
  whole_first x l h = rw (le-ltb x (2 * a) (omega arith), ne_eqb x (2 * (a + 1) + 1) (λ z. omega (arith, z)))

  whole_half : (x : ℕ) → x < 2 * a → whole_end (half_end x) ≡ x
  unfolding half_end
  whole_half x h =
      ⊎_elim
      (λ (z : eqb x (2 * e) ≡ true). let is = eqb-true x (2 * e) z in rw (is, half_first, whole_first (2 * a) (omega arith) (omega arith)))
      (λ (z : eqb x (2 * e) ≡ false).
      ⊎_elim
      (λ (y : eqb x (2 * e + 1) ≡ true). let is = eqb-true x (2 * e + 1) y in rw (is, half_last, whole_last))
      (λ (y : eqb x (2 * e + 1) ≡ false). let same : half_end x ≡ x = stays z y in rw (same, whole_old x h))
      (cases (eqb x (2 * e + 1))))
      (cases (eqb x (2 * e)))
    where
      stays : eqb x (2 * e) ≡ false → eqb x (2 * e + 1) ≡ false → half_end x ≡ x
      stays z y = rw (z, y)

  -- ---- the halves of a use: the first, the last, and the corner between them
  abbrev first_half : List ℕ → ℕ
  first_half hs = get_or hs 0 0

  abbrev last_half : List ℕ → ℕ
  last_half hs = get_or (reverse hs) 0 0

  abbrev inner : List ℕ → List Link
  inner hs = links (map last_end hs) (map first_end (drop 1 hs))

  abbrev low_e : e < 32768
  low_e = omega arith

  abbrev low_a : a < 32768
  low_a = omega arith

  abbrev low_b : a + 1 < 32768
  low_b = omega arith

  half_begins : (u : ℕ) → u < 65536 → half_end (first_end u) ≡ first_end (first_half (halve e a u))
  half_begins u low =
      by_kind e a inside few (λ (w : ℕ) (hs : List ℕ). half_end (first_end w) ≡ first_end (first_half hs)) u low
      (λ is. half_other u (first_end u) is (first_of u))
      (ap half_end (first_plain e low_e) ∙ half_first ∙ sym (first_plain a low_a))
      (ap half_end (first_reversed e low_e) ∙ half_last ∙ sym (first_reversed (a + 1) low_b))

  half_ends : (u : ℕ) → u < 65536 → half_end (last_end u) ≡ last_end (last_half (halve e a u))
  half_ends u low =
      by_kind e a inside few (λ (w : ℕ) (hs : List ℕ). half_end (last_end w) ≡ last_end (last_half hs)) u low
      (λ is. half_other u (last_end u) is (last_of u))
      (ap half_end (last_plain e low_e) ∙ half_last ∙ sym (last_plain (a + 1) low_b))
      (ap half_end (last_reversed e low_e) ∙ half_first ∙ sym (last_reversed a low_a))

  -- the same two, back
  ends_old : (u : ℕ) → edge_number u < a → (first_end u < 2 * a) × (last_end u < 2 * a)
  unfolding Of
  ends_old u h = (omega (arith, h, (first_of u).1), omega (arith, h, (last_of u).1))

  whole_begins : (u : ℕ) → IsUse a u → whole_end (first_end (first_half (halve e a u))) ≡ first_end u
  whole_begins u h = ap whole_end (sym (half_begins u h.0)) ∙ whole_half (first_end u) (ends_old u h.1).0

  whole_ends : (u : ℕ) → IsUse a u → whole_end (last_end (last_half (halve e a u))) ≡ last_end u
  whole_ends u h = ap whole_end (sym (half_ends u h.0)) ∙ whole_half (last_end u) (ends_old u h.1).1

  half_corner : (u v : ℕ) → IsUse a u → IsUse a v → link (half_end (last_end u)) (half_end (first_end v)) ≡ corner (last_half (halve e a u)) (first_half (halve e a v))
  half_corner u v h k = λ i. link (half_ends u h.0 i) (half_begins v k.0 i)

  whole_corner : (u v : ℕ) → IsUse a u → IsUse a v → link (whole_end (last_end (last_half (halve e a u)))) (whole_end (first_end (first_half (halve e a v)))) ≡ corner u v
  whole_corner u v h k = λ i. link (whole_ends u h i) (whole_begins v k i)

  whole_inner : (u : ℕ) → u < 65536 → (l : Link) → Memᴰ l (inner (halve e a u)) → whole_end l.a ≡ whole_end l.b
  unfolding links
  whole_inner u low =
      by_kind e a inside few (λ (w : ℕ) (hs : List ℕ). (l : Link) → Memᴰ l (inner hs) → whole_end l.a ≡ whole_end l.b) u low
      (λ is l m. absurd (mathlib.Core.List.Memᴰ.not-nil m))
      (λ l m. let z : l ≡ corner a (a + 1) = mathlib.Core.List.Memᴰ.eq_of_singleton m in
      rw (z, last_plain a low_a, first_plain (a + 1) low_b, whole_first (2 * a + 1) (omega arith) (omega arith), whole_first (2 * (a + 1)) (omega arith) (omega arith)))
      (λ l m. let z : l ≡ corner (a + 1 + 32768) (a + 32768) = mathlib.Core.List.Memᴰ.eq_of_singleton m in
      rw (z, last_reversed (a + 1) low_b, first_reversed a low_a, whole_first (2 * a + 1) (omega arith) (omega arith), whole_first (2 * (a + 1)) (omega arith) (omega arith)))

  -- ---- the corners of a halved wire
  steps_halve : (x w : ℕ) (rest : List ℕ) (v : ℕ) → w < 65536
      → steps x (halve e a w ++ rest) v ≡ corner x (first_half (halve e a w)) ∷ (inner (halve e a w) ++ steps (last_half (halve e a w)) rest v)
  unfolding steps links
  steps_halve x w rest v low =
      by_kind e a inside few (λ (u : ℕ) (hs : List ℕ). steps x (hs ++ rest) v ≡ corner x (first_half hs) ∷ (inner hs ++ steps (last_half hs) rest v)) w low (λ is. refl) refl refl

  corners_halve : (u : ℕ) (rest : List ℕ) → u < 65536 → corners (halve e a u ++ rest) ≡ inner (halve e a u) ++ steps (last_half (halve e a u)) rest (first_half (halve e a u))
  unfolding steps links
  corners_halve u rest low =
      by_kind e a inside few (λ (w : ℕ) (hs : List ℕ). corners (hs ++ rest) ≡ inner hs ++ steps (last_half hs) rest (first_half hs)) u low
      (λ is. corners_steps u rest) (corners_steps a ((a + 1) ∷ rest)) (corners_steps (a + 1 + 32768) ((a + 32768) ∷ rest))

  steps_carry : (u : ℕ) (us : List ℕ) (v : ℕ) → IsUse a u → All (IsUse a) us → IsUse a v → (l : Link) → Memᴰ l (steps u us v)
      → Memᴰ (link (half_end l.a) (half_end l.b)) (steps (last_half (halve e a u)) (halved e a us) (first_half (halve e a v)))
  unfolding steps flat
  steps_carry u [] v h hs k l m = let z : l ≡ corner u v = mathlib.Core.List.Memᴰ.eq_of_singleton m in rw z (mathlib.Core.List.Memᴰ.head (half_corner u v h k))
  steps_carry u (w ∷ us) v h hs k l m =
      rw (steps_halve (last_half (halve e a u)) w (halved e a us) (first_half (halve e a v)) hs.0.0)
      (⊎_elim
      (λ (z : l ≡ corner u w). rw z (mathlib.Core.List.Memᴰ.head (half_corner u w h hs.0)))
      (λ (o : Memᴰ l (steps w us v)). mathlib.Core.List.Memᴰ.tail (mathlib.Core.List.Memᴰ.append_right (inner (halve e a w)) (steps_carry w us v hs.0 hs.1 k l o)))
      (mathlib.Core.List.Memᴰ.cases_cons m))

  abbrev Back : Link → List Link → Type 0
  Back l L = Memᴰ (link (whole_end l.a) (whole_end l.b)) L ⊎ (whole_end l.a ≡ whole_end l.b)

  steps_back : (u : ℕ) (us : List ℕ) (v : ℕ) → IsUse a u → All (IsUse a) us → IsUse a v → (l : Link)
      → Memᴰ l (steps (last_half (halve e a u)) (halved e a us) (first_half (halve e a v))) → Back l (steps u us v)
  unfolding steps flat
  steps_back u [] v h hs k l m =
      let z : l ≡ corner (last_half (halve e a u)) (first_half (halve e a v)) = mathlib.Core.List.Memᴰ.eq_of_singleton m in
      inl (rw z (mathlib.Core.List.Memᴰ.head (whole_corner u v h k)))
  steps_back u (w ∷ us) v h hs k l m =
      let x = last_half (halve e a u) in
      let y = first_half (halve e a v) in
      let rest = steps (last_half (halve e a w)) (halved e a us) y in
      let m' : Memᴰ l (corner x (first_half (halve e a w)) ∷ (inner (halve e a w) ++ rest)) = rw (steps_halve x w (halved e a us) y hs.0.0) at m in
      ⊎_elim
      (λ (z : l ≡ corner x (first_half (halve e a w))). inl (rw z (mathlib.Core.List.Memᴰ.head (whole_corner u w h hs.0))))
      (λ (o : Memᴰ l (inner (halve e a w) ++ rest)).
      ⊎_elim
      (λ (i : Memᴰ l (inner (halve e a w))). inr (whole_inner w hs.0.0 l i))
      (λ (i : Memᴰ l rest). later (steps_back w us v hs.0 hs.1 k l i))
      (mathlib.Core.List.Memᴰ.append_cases (inner (halve e a w)) o))
      (mathlib.Core.List.Memᴰ.cases_cons m')
    where
      later : Back l (steps w us v) → Back l (corner u w ∷ steps w us v)
      later (inl i) = inl (mathlib.Core.List.Memᴰ.tail i)
      later (inr z) = inr z

  corners_carry : (us : List ℕ) → All (IsUse a) us → (l : Link) → Memᴰ l (corners us) → Memᴰ (link (half_end l.a) (half_end l.b)) (corners (halved e a us))
  unfolding flat
  corners_carry [] h l m = absurd (no_corner l m)
  corners_carry (u ∷ us) h l m =
      rw (corners_halve u (halved e a us) h.0.0)
      (mathlib.Core.List.Memᴰ.append_right (inner (halve e a u)) (steps_carry u us u h.0 h.1 h.0 l (rw (corners_steps u us) at m)))

  corners_back : (us : List ℕ) → All (IsUse a) us → (l : Link) → Memᴰ l (corners (halved e a us)) → Back l (corners us)
  unfolding flat
  corners_back [] h l m = absurd (no_corner l m)
  corners_back (u ∷ us) h l m =
      let m' : Memᴰ l (inner (halve e a u) ++ steps (last_half (halve e a u)) (halved e a us) (first_half (halve e a u))) = rw (corners_halve u (halved e a us) h.0.0) at m in
      rw (corners_steps u us)
      (⊎_elim
      (λ (i : Memᴰ l (inner (halve e a u))). inr (whole_inner u h.0.0 l i))
      (λ (i : Memᴰ l (steps (last_half (halve e a u)) (halved e a us) (first_half (halve e a u)))). steps_back u us u h.0 h.1 h.0 l i)
      (mathlib.Core.List.Memᴰ.append_cases (inner (halve e a u)) m'))

  -- the corner between the halves of a use of the wire
  inner_steps : (x : ℕ) (us : List ℕ) (v : ℕ) → All (IsUse a) us → (u : ℕ) → Memᴰ u us → (l : Link) → Memᴰ l (inner (halve e a u)) → Memᴰ l (steps x (halved e a us) v)
  unfolding flat
  inner_steps x [] v h u m l i = absurd (mathlib.Core.List.Memᴰ.not-nil m)
  inner_steps x (w ∷ us) v h u m l i =
      rw (steps_halve x w (halved e a us) v h.0.0)
      (⊎_elim
      (λ (z : u ≡ w). mathlib.Core.List.Memᴰ.tail (mathlib.Core.List.Memᴰ.append_left (steps (last_half (halve e a w)) (halved e a us) v) (rw z at i)))
      (λ (o : Memᴰ u us). mathlib.Core.List.Memᴰ.tail (mathlib.Core.List.Memᴰ.append_right (inner (halve e a w)) (inner_steps (last_half (halve e a w)) us v h.1 u o l i)))
      (mathlib.Core.List.Memᴰ.cases_cons m))

  inner_corners : (us : List ℕ) → All (IsUse a) us → (u : ℕ) → Memᴰ u us → (l : Link) → Memᴰ l (inner (halve e a u)) → Memᴰ l (corners (halved e a us))
  unfolding flat
  inner_corners [] h u m l i = absurd (mathlib.Core.List.Memᴰ.not-nil m)
  inner_corners (w ∷ us) h u m l i =
      rw (corners_halve w (halved e a us) h.0.0)
      (⊎_elim
      (λ (z : u ≡ w). mathlib.Core.List.Memᴰ.append_left (steps (last_half (halve e a w)) (halved e a us) (first_half (halve e a w))) (rw z at i))
      (λ (o : Memᴰ u us). mathlib.Core.List.Memᴰ.append_right (inner (halve e a w)) (inner_steps (last_half (halve e a w)) us (first_half (halve e a w)) h.1 u o l i))
      (mathlib.Core.List.Memᴰ.cases_cons m))

  named_halve : (u : ℕ) → IsUse a u → All (λ (v : ℕ). edge_number v < a + 2) (halve e a u)
  named_halve u h =
      by_kind e a inside few (λ (w : ℕ) (hs : List ℕ). All (λ (v : ℕ). edge_number v < a + 2) hs) u h.0
      (λ is. (omega (arith, h.1), tt)) (omega arith, (omega arith, tt)) (omega arith, (omega arith, tt))

-- ---- before the cut, and after
module _ (e a p points : ℕ) (front back front' back' : ℕ → ℕ) (t : Ends e a p front back front' back') where
  abbrev IsApart : ℕ → Type 0
  IsApart = Apart a p points front back

  abbrev half : ℕ → ℕ
  half = half_end e a t.inside t.few

  abbrev whole : ℕ → ℕ
  whole = whole_end e a t.inside t.few

  is_use : (u : ℕ) → IsApart u → IsUse a u
  is_use u s = (s.low, s.named)

  -- at any other point, the ends of the halves are those of the edge
  module _ (q : ℕ) (other : eqb p q ≡ false) where
    both : (b b' : Bool) (x y x' y' : ℕ) → half x ≡ x' → half y ≡ y' → pick b (x' ∷ []) [] ++ pick b' (y' ∷ []) [] ≡ map half (pick b (x ∷ []) [] ++ pick b' (y ∷ []) [])
    both true true x y x' y' f g = rw (f, g)
    both true false x y x' y' f g = rw f
    both false true x y x' y' f g = rw g
    both false false x y x' y' f g = refl

    ends_halve : (u : ℕ) → IsApart u → flat (map (ends_of front' back' q) (halve e a u)) ≡ map half (ends_of front back q u)
    unfolding flat
    ends_halve u s =
        by_kind e a t.inside t.few (λ (w : ℕ) (hs : List ℕ). w ≡ u → first_end (first_half e a t.inside t.few hs) ≡ half (first_end w)
        → last_end (last_half e a t.inside t.few hs) ≡ half (last_end w) → flat (map (ends_of front' back' q) hs) ≡ map half (ends_of front back q w)) u s.low
        (λ is z f l. rw (t.old_front u s.named, t.old_back u s.named, append-nil)
        (both (eqb (front u) q) (eqb (back u) q) (first_end u) (last_end u) (first_end u) (last_end u) (sym f) (sym l)))
        (λ z f l. rw (t.first_front, t.first_back, t.second_front, t.second_back, other)
        (parts (pick (eqb (front e) q) (first_end a ∷ []) []) (pick (eqb (back e) q) (last_end (a + 1) ∷ []) [])
        ∙ both (eqb (front e) q) (eqb (back e) q) (first_end e) (last_end e) (first_end a) (last_end (a + 1)) (sym f) (sym l)))
        (λ z f l. rw (t.reversed_second_front, t.reversed_second_back, t.reversed_first_front, t.reversed_first_back, t.reversed_front, t.reversed_back, other)
        (parts (pick (eqb (back e) q) (first_end (a + 1 + 32768) ∷ []) []) (pick (eqb (front e) q) (last_end (a + 32768) ∷ []) [])
        ∙ both (eqb (back e) q) (eqb (front e) q) (first_end (e + 32768)) (last_end (e + 32768)) (first_end (a + 1 + 32768)) (last_end (a + 32768)) (sym f) (sym l)))
        refl (sym (half_begins e a t.inside t.few u s.low)) (sym (half_ends e a t.inside t.few u s.low))
      where
        parts : (xs ys : List ℕ) → (xs ++ []) ++ (([] ++ ys) ++ []) ≡ xs ++ ys
        parts xs ys = rw (append-nil xs, append-nil ys)

    ends_halved : (us : List ℕ) → All IsApart us → ends_at front' back' q (halved e a us) ≡ map half (ends_at front back q us)
    unfolding ends_at flat
    ends_halved [] h = refl
    ends_halved (u ∷ us) h =
        let E = ends_of front back q in
        let E' = ends_of front' back' q in
        ap flat (map-append E' (halve e a u) (halved e a us))
        ∙ flat_append (map E' (halve e a u)) (map E' (halved e a us))
        ∙ (rw (ends_halve u h.0, ends_halved us h.1))
        ∙ sym (map-append half (E u) (flat (map E us)))

  -- ---- wires of such uses
  module _ (wires : List (List ℕ)) (clear : All (Clear a p points front back) wires) where
    abbrev us : List ℕ
    us = flat wires

    abbrev after : List (List ℕ)
    after = map (halved e a) wires

    abbrev L : List Link
    L = flat (map corners wires)

    abbrev L' : List Link
    L' = flat (map corners after)

    uses_after : flat after ≡ halved e a us
    uses_after = flat_made (halve e a) wires

    all_apart : All IsApart us
    all_apart = all_flat IsApart wires (all_weaker (Clear a p points front back) (All IsApart) (λ vs h. h.1) wires clear)

    apart : (u : ℕ) → Memᴰ u us → IsApart u
    apart = all_member IsApart us all_apart

    wire_uses : (vs : List ℕ) → Memᴰ vs wires → All (IsUse a) vs
    wire_uses vs m = all_weaker IsApart (IsUse a) is_use vs (all_member (Clear a p points front back) wires clear vs m).1

    named_after : (v : ℕ) → Memᴰ v (flat after) → edge_number v < a + 2
    named_after v m =
        let r = of_flat_map (halve e a) us (rw uses_after at m) in
        all_member (λ (w : ℕ). edge_number w < a + 2) (halve e a r.0) (named_halve e a t.inside t.few r.0 (is_use r.0 (apart r.0 r.1))) v r.2

    inside_before : Inside (2 * a) L
    inside_before = corners_inside a wires (λ u m. (apart u m).named)

    inside_after : Inside (2 * (a + 2)) L'
    inside_after = corners_inside (a + 2) after named_after

    carries : Carries half L L'
    carries l m =
        let r = of_flat_map corners wires m in
        let vs = r.0 in
        along (link (half l.a) (half l.b))
        (in_flat_map corners (mathlib.Core.List.Memᴰ.map (halved e a) r.1) (corners_carry e a t.inside t.few vs (wire_uses vs r.1) l r.2)) here

    carries_back : Carries whole L' L
    carries_back l m =
        let r = of_flat_map corners after m in
        let s = mathlib.Core.List.Memᴰ.of_map (halved e a) wires r.1 in
        let vs = s.0 in
        let k : Memᴰ l (corners (halved e a vs)) = rw s.2 r.2 in
        ⊎_elim
        (λ (o : Memᴰ (link (whole l.a) (whole l.b)) (corners vs)). along (link (whole l.a) (whole l.b)) (in_flat_map corners s.1 o) here)
        (λ (z : whole l.a ≡ whole l.b). rw z here)
        (corners_back e a t.inside t.few vs (wire_uses vs s.1) l k)

    side : (q : ℕ) → Side (2 * a) L (ends_at front back q us)
    side q = record { inside = inside_before; under = ends_under front back q a us (λ u m. (apart u m).named) }

    side_after : (q : ℕ) → Side (2 * (a + 2)) L' (ends_at front' back' q (flat after))
    side_after q = record { inside = inside_after; under = ends_under front' back' q (a + 2) (flat after) named_after }

    -- at an old point
    old_kept : (q : ℕ) → eqb p q ≡ false → one_group (2 * a) L (ends_at front back q us) ≡ one_group (2 * (a + 2)) L' (ends_at front' back' q (flat after))
    old_kept q other =
        let ps = ends_at front back q us in
        let ps' = ends_at front' back' q (flat after) in
        let is : ps' ≡ map half ps = ap (ends_at front' back' q) uses_after ∙ ends_halved q other us all_apart in
        one_group_kept (2 * a) (2 * (a + 2)) L L' ps ps' (side q) (side_after q) half whole carries carries_back
        (λ y m. let r = mathlib.Core.List.Memᴰ.of_map half ps (rw is at m) in (r.0, r.1, rw r.2 here))
        (λ x m. (half x, rw is (mathlib.Core.List.Memᴰ.map half m), rw (whole_half e a t.inside t.few x ((side q).under x m)) here))

    -- at the new point no use began or ended
    none_before : (ws : List ℕ) → All IsApart ws → ends_at front back p ws ≡ []
    unfolding ends_at flat
    none_before [] h = refl
    none_before (u ∷ ws) h = rw (ne_eqb (front u) p h.0.front_apart, ne_eqb (back u) p h.0.back_apart, none_before ws h.1)

    -- and now the halves are neighbours on each wire
    joined : (u : ℕ) → IsApart u → ((l : Link) → Memᴰ l (inner e a t.inside t.few (halve e a u)) → Memᴰ l L')
        → All (λ (v : ℕ). (x : ℕ) → Memᴰ x (ends_of front' back' p v) → Linked L' (2 * a + 1) x) (halve e a u)
    unfolding links
    joined u s =
        by_kind e a t.inside t.few
        (λ (w : ℕ) (hs : List ℕ). w ≡ u → ((l : Link) → Memᴰ l (inner e a t.inside t.few hs) → Memᴰ l L')
        → All (λ (v : ℕ). (x : ℕ) → Memᴰ x (ends_of front' back' p v) → Linked L' (2 * a + 1) x) hs) u s.low
        (λ is z m. (at u (λ y. absurd (s.front_apart (sym (t.old_front u s.named) ∙ y))) (λ y. absurd (s.back_apart (sym (t.old_back u s.named) ∙ y))), tt))
        (λ z m.
        let k : Linked L' (2 * a + 1) (first_end (a + 1)) = rw (last_plain a low) at (along (corner a (a + 1)) (m (corner a (a + 1)) (mathlib.Core.List.Memᴰ.head refl)) here) in (
          at a (λ y. absurd (s.front_apart (ap front (sym z) ∙ sym t.first_front ∙ y))) (λ y. rw (last_plain a low) here),
          (at (a + 1) (λ y. k) (λ y. absurd (s.back_apart (ap back (sym z) ∙ sym t.second_back ∙ y))), tt),
        ))
        (λ z m.
        let v = a + 1 + 32768 in
        let w = a + 32768 in
        let k : Linked L' (2 * a + 1) (last_end v) = rw (first_reversed a low) at (against (corner v w) (m (corner v w) (mathlib.Core.List.Memᴰ.head refl)) here) in (
          at v (λ y. absurd (s.front_apart (ap front (sym z) ∙ t.reversed_front ∙ sym t.reversed_second_front ∙ y))) (λ y. k),
          (at w (λ y. rw (first_reversed a low) here) (λ y. absurd (s.back_apart (ap back (sym z) ∙ t.reversed_back ∙ sym t.reversed_first_back ∙ y))), tt),
        ))
        refl
      where
        low : a < 32768
        low = omega (arith, t.few)

        at : (v : ℕ) → (front' v ≡ p → Linked L' (2 * a + 1) (first_end v)) → (back' v ≡ p → Linked L' (2 * a + 1) (last_end v))
            → (x : ℕ) → Memᴰ x (ends_of front' back' p v) → Linked L' (2 * a + 1) x
        at v f b x o =
            ⊎_elim
            (λ (r : (front' v ≡ p) × (x ≡ first_end v)). rw r.1 (f r.0))
            (λ (r : (back' v ≡ p) × (x ≡ last_end v)). rw r.1 (b r.0))
            (of_ends front' back' p v x o)

    reached : (x : ℕ) → Memᴰ x (ends_at front' back' p (flat after)) → Linked L' (2 * a + 1) x
    unfolding ends_at
    reached x m =
        let r = of_flat_map (ends_of front' back' p) (flat after) m in
        let v = r.0 in
        let w = of_flat after r.1 in
        let s = mathlib.Core.List.Memᴰ.of_map (halved e a) wires w.1 in
        let vs = s.0 in
        let i : Memᴰ v (halved e a vs) = rw s.2 w.2 in
        let k = of_flat_map (halve e a) vs i in
        let u = k.0 in
        all_member (λ (y : ℕ). (z : ℕ) → Memᴰ z (ends_of front' back' p y) → Linked L' (2 * a + 1) z) (halve e a u)
        (joined u (apart u (in_flat wires s.1 k.1))
        (λ l o. in_flat_map corners (mathlib.Core.List.Memᴰ.map (halved e a) s.1) (inner_corners e a t.inside t.few vs (wire_uses vs s.1) u k.1 l o)))
        v k.2 x r.2

    singular_at : (q : ℕ) → is_singular front' back' (a + 2) after q ≡ is_singular front back a wires q
    unfolding one_group
    singular_at q =
        ⊎_elim
        (λ (z : eqb p q ≡ true).
        let ps' = ends_at front' back' p (flat after) in
        let one = linked_one_group (2 * (a + 2)) L' inside_after ps' (side_after p).under (λ x y mx my. chain (turn (reached x mx)) (reached y my)) in
        rw (← eqb-true p q z, one, none_before us all_apart))
        (λ (z : eqb p q ≡ false). ap not (sym (old_kept q z)))
        (cases (eqb p q))

    pub singular_halved : singular_of front' back' (a + 2) points (map (halved e a) wires) ≡ singular_of front back a points wires
    unfolding singular_of
    singular_halved =
        only_same (is_singular front' back' (a + 2) after) (is_singular front back a wires) (numbers points)
        (all_each (λ (q : ℕ). is_singular front' back' (a + 2) after q ≡ is_singular front back a wires q) 0 (numbers points) (λ k h. singular_at (get_or (numbers points) k 0)))
