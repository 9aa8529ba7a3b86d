-- Halved uses connect what the uses connect: a step along the edge becomes two, and the new point goes with an end of the edge.
use Prim.Native.Nat.{◌+◌, ◌<◌, ℕ}
use mathlib.Core.List.{List, Memᴰ, [], ◌++◌, ◌∷◌, map, map-map}
use mathlib.Core.Logic.{◌⊎◌, inl, inr, ⊎_elim}
use mathlib.Core.Path.{◌∙◌, ◌≡◌, ap, refl, sym}
use native.Mathlib.Omega.{arith}
use lib.Dec.{eqb}
use lib.ListN.{drop, get_or, length}
use borrow.Author.Tests.{eq-eqb, ne_eqb}
use Rattle.edge.specs.Uses.{edge_number}
use Rattle.groups.proofs.Alike.{in_flat, in_flat_map, member_at, of_flat, of_flat_map}
use Rattle.groups.proofs.Meaning.{chain}
use Rattle.groups.specs.Groups.{Link, Linked, along, here, link, links}
use Rattle.lists.proofs.Count.{All, all_weaker}
use Rattle.lists.proofs.Parts.{all_flat, map_same}
use Rattle.lists.specs.Lists.{flat, pick}
use Rattle.shell.specs.Connected.{connected_of, face_links, first_points}
use Rattle.shell_edits.proofs.KeepsGroups.{Carries, Meets, Side, all_member, of_links, one_group_kept}
use Rattle.shell_edits.proofs.KeepsShell.{Apart, Clear, Ends}
use Rattle.shell_edits.proofs.KeepsUses.{by_kind, flat_made, flat_map}
use Rattle.shell_edits.specs.Keeps.{halve, halved}

-- ---- the links of faces: of the uses, and of the wires of each face
module _ (front back : ℕ → ℕ) where
  abbrev use_link : ℕ → Link
  use_link u = link (front u) (back u)

  abbrev wire_links : List (List ℕ) → List Link
  wire_links w = links (first_points front back w) (drop 1 (first_points front back w))

  abbrev all_links : List (List (List ℕ)) → List Link
  all_links faces = flat (map (face_links front back) faces)

  links_map : (us : List ℕ) → links (map front us) (map back us) ≡ map use_link us
  unfolding links
  links_map [] = refl
  links_map (u ∷ us) = ap (λ (L : List Link). use_link u ∷ L) (links_map us)

  in_uses : (faces : List (List (List ℕ))) (u : ℕ) → Memᴰ u (flat (flat faces)) → Memᴰ (use_link u) (all_links faces)
  unfolding face_links
  in_uses faces u m =
      let r = of_flat (flat faces) m in
      let s = of_flat faces r.1 in
      in_flat_map (face_links front back) s.1 (rw (links_map (flat s.0)) (mathlib.Core.List.Memᴰ.append_left (wire_links s.0) (mathlib.Core.List.Memᴰ.map use_link (in_flat s.0 s.2 r.2))))

  in_wires : (faces : List (List (List ℕ))) (l : Link) → Memᴰ l (flat (map wire_links faces)) → Memᴰ l (all_links faces)
  unfolding face_links
  in_wires faces l m =
      let r = of_flat_map wire_links faces m in
      in_flat_map (face_links front back) r.1 (mathlib.Core.List.Memᴰ.append_right (links (map front (flat r.0)) (map back (flat r.0))) r.2)

  of_faces : (faces : List (List (List ℕ))) (l : Link) → Memᴰ l (all_links faces)
      → ((u : ℕ) × Memᴰ u (flat (flat faces)) × (use_link u ≡ l)) ⊎ Memᴰ l (flat (map wire_links faces))
  unfolding face_links
  of_faces faces l m =
      let r = of_flat_map (face_links front back) faces m in
      let w = r.0 in
      ⊎_elim
      (λ (o : Memᴰ l (links (map front (flat w)) (map back (flat w)))).
      let q = mathlib.Core.List.Memᴰ.of_map use_link (flat w) (rw (links_map (flat w)) at o) in
      let s = of_flat w q.1 in
      inl (q.0, in_flat (flat faces) (in_flat faces r.1 s.1) s.2, q.2))
      (λ (o : Memᴰ l (wire_links w)). inr (in_flat_map wire_links r.1 o))
      (mathlib.Core.List.Memᴰ.append_cases (links (map front (flat w)) (map back (flat w))) r.2)

  -- a claim of the fronts of all uses holds of both ends of the link of two wires
  wire_ends : (P : ℕ → Type 0) (faces : List (List (List ℕ))) → ((us : List ℕ) → Memᴰ us (flat faces) → 0 < length us)
      → ((u : ℕ) → Memᴰ u (flat (flat faces)) → P (front u)) → (l : Link) → Memᴰ l (flat (map wire_links faces)) → P l.a × P l.b
  wire_ends P faces some h l m =
      let r = of_flat_map wire_links faces m in
      let w = r.0 in
      let s = of_links (first_points front back w) (drop 1 (first_points front back w)) l r.2 in
      (first w r.1 l.a s.0, first w r.1 l.b (within_rest (first_points front back w) l.b s.1))
    where
      within_rest : (xs : List ℕ) (x : ℕ) → Memᴰ x (drop 1 xs) → Memᴰ x xs
      within_rest [] x m = m
      within_rest (y ∷ ys) x m = mathlib.Core.List.Memᴰ.tail m

      first : (w : List (List ℕ)) → Memᴰ w faces → (x : ℕ) → Memᴰ x (first_points front back w) → P x
      first w o x k =
          let r = mathlib.Core.List.Memᴰ.of_map (λ (us : List ℕ). front (get_or us 0 0)) w k in
          let us = r.0 in
          let i = in_flat faces o r.1 in
          rw (← r.2) (h (get_or us 0 0) (in_flat (flat faces) i (member_at 0 us 0 (some us i))))

-- ---- before the cut, and after
module _ (e a p points : ℕ) (front back front' back' : ℕ → ℕ) (t : Ends e a p front back front' back') where
  abbrev IsApart : ℕ → Type 0
  IsApart = Apart a p points front back

  -- the point of the cut goes with the front of the edge
  moved : ℕ → ℕ
  moved q = pick (eqb q p) (front e) q

  moved_point : moved p ≡ front e
  unfolding moved
  moved_point = rw (eq-eqb p p refl)

  moved_other : (q : ℕ) → (q ≡ p → ⊥) → moved q ≡ q
  unfolding moved
  moved_other q h = rw (ne_eqb q p h)

  -- ---- a use and its halves, in any links
  module _ (M : List Link) where
    step : (v x y : ℕ) → Memᴰ (link (front' v) (back' v)) M → front' v ≡ x → back' v ≡ y → Linked M x y
    step v x y m f b = let s : Linked M (front' v) (back' v) = along (link (front' v) (back' v)) m here in rw (f, b) at s

    abbrev HalvesIn : List ℕ → Type 0
    HalvesIn hs = (v : ℕ) → Memᴰ v hs → Memᴰ (link (front' v) (back' v)) M

    -- the halves join the ends of the use, and lead to their fronts
    use_joined : (u : ℕ) → u < 65536 → edge_number u < a → HalvesIn (halve e a u) → Linked M (front u) (back u)
    use_joined u low l =
        by_kind e a t.inside t.few (λ (w : ℕ) (hs : List ℕ). HalvesIn hs → Linked M (front w) (back w)) u low
        (λ is m. step u (front u) (back u) (m u (mathlib.Core.List.Memᴰ.head refl)) (t.old_front u l) (t.old_back u l))
        (λ m. chain
        (step a (front e) p (m a (mathlib.Core.List.Memᴰ.head refl)) t.first_front t.first_back)
        (step (a + 1) p (back e) (m (a + 1) (mathlib.Core.List.Memᴰ.tail (mathlib.Core.List.Memᴰ.head refl))) t.second_front t.second_back))
        (λ m. rw (t.reversed_front, t.reversed_back) (chain
        (step (a + 1 + 32768) (back e) p (m (a + 1 + 32768) (mathlib.Core.List.Memᴰ.head refl)) t.reversed_second_front t.reversed_second_back)
        (step (a + 32768) p (front e) (m (a + 32768) (mathlib.Core.List.Memᴰ.tail (mathlib.Core.List.Memᴰ.head refl))) t.reversed_first_front t.reversed_first_back)))

    fronts_joined : (u : ℕ) → u < 65536 → edge_number u < a → HalvesIn (halve e a u) → All (λ (v : ℕ). Linked M (front u) (front' v)) (halve e a u)
    fronts_joined u low l =
        by_kind e a t.inside t.few (λ (w : ℕ) (hs : List ℕ). HalvesIn hs → All (λ (v : ℕ). Linked M (front w) (front' v)) hs) u low
        (λ is m. (rw (t.old_front u l) here, tt))
        (λ m. (
          rw t.first_front here,
          (rw t.second_front (step a (front e) p (m a (mathlib.Core.List.Memᴰ.head refl)) t.first_front t.first_back), tt),
        ))
        (λ m. rw t.reversed_front (
          rw t.reversed_second_front here,
          (rw t.reversed_first_front (step (a + 1 + 32768) (back e) p (m (a + 1 + 32768) (mathlib.Core.List.Memᴰ.head refl)) t.reversed_second_front t.reversed_second_back), tt),
        ))

    -- the use joins the ends of its halves, the new point moved
    halves_joined : (u : ℕ) → IsApart u → Memᴰ (link (front u) (back u)) M → All (λ (v : ℕ). Linked M (moved (front' v)) (moved (back' v))) (halve e a u)
    halves_joined u s =
        by_kind e a t.inside t.few
        (λ (w : ℕ) (hs : List ℕ). w ≡ u → Memᴰ (link (front w) (back w)) M → All (λ (v : ℕ). Linked M (moved (front' v)) (moved (back' v))) hs) u s.low
        (λ is z m.
        (rw (t.old_front u s.named, t.old_back u s.named, moved_other (front u) s.front_apart, moved_other (back u) s.back_apart) (along (link (front u) (back u)) m here), tt))
        (λ z m.
        let f = moved_other (front e) (rw z s.front_apart) in
        let b = moved_other (back e) (rw z s.back_apart) in (
          rw (t.first_front, t.first_back, f, moved_point) here,
          (rw (t.second_front, t.second_back, b, moved_point) (along (link (front e) (back e)) m here), tt),
        ))
        (λ z m.
        let f = moved_other (back e) (rw (← t.reversed_front, z) s.front_apart) in
        let b = moved_other (front e) (rw (← t.reversed_back, z) s.back_apart) in
        let k : Memᴰ (link (back e) (front e)) M = rw (t.reversed_front, t.reversed_back) at m in (
          rw (t.reversed_second_front, t.reversed_second_back, f, moved_point) (along (link (back e) (front e)) k here),
          (rw (t.reversed_first_front, t.reversed_first_back, b, moved_point) here, tt),
        ))
        refl

  -- one half begins where the use begins
  begins : (u : ℕ) → u < 65536 → edge_number u < a → (v : ℕ) × Memᴰ v (halve e a u) × (front' v ≡ front u)
  begins u low l =
      by_kind e a t.inside t.few (λ (w : ℕ) (hs : List ℕ). (v : ℕ) × Memᴰ v hs × (front' v ≡ front w)) u low
      (λ is. (u, mathlib.Core.List.Memᴰ.head refl, t.old_front u l))
      (a, mathlib.Core.List.Memᴰ.head refl, t.first_front)
      (a + 1 + 32768, mathlib.Core.List.Memᴰ.head refl, t.reversed_second_front ∙ sym t.reversed_front)

  -- so the first point of a wire stays
  first_stays : (us : List ℕ) → Clear a p points front back us → front' (get_or (halved e a us) 0 0) ≡ front (get_or us 0 0)
  unfolding flat
  first_stays [] h = absurd (omega (arith, h.0))
  first_stays (u ∷ us) h =
      let s = h.1.0 in
      by_kind e a t.inside t.few (λ (w : ℕ) (hs : List ℕ). front' (get_or (hs ++ halved e a us) 0 0) ≡ front w) u s.low
      (λ is. t.old_front u s.named) t.first_front (t.reversed_second_front ∙ sym t.reversed_front)

  module _ (point : p < points) where
    halves_inside : (u : ℕ) → IsApart u → All (λ (v : ℕ). (front' v < points) × (back' v < points)) (halve e a u)
    halves_inside u s =
        by_kind e a t.inside t.few (λ (w : ℕ) (hs : List ℕ). w ≡ u → All (λ (v : ℕ). (front' v < points) × (back' v < points)) hs) u s.low
        (λ is z. (rw (t.old_front u s.named, t.old_back u s.named) (s.front_inside, s.back_inside), tt))
        (λ z.
        let f : front e < points = rw z s.front_inside in
        let b : back e < points = rw z s.back_inside in
        (rw (t.first_front, t.first_back) (f, point), (rw (t.second_front, t.second_back) (point, b), tt)))
        (λ z.
        let f : back e < points = rw (← t.reversed_front, z) s.front_inside in
        let b : front e < points = rw (← t.reversed_back, z) s.back_inside in
        (rw (t.reversed_second_front, t.reversed_second_back) (f, point), (rw (t.reversed_first_front, t.reversed_first_back) (point, b), tt)))
        refl

    -- ---- faces of such wires
    module _ (faces : List (List (List ℕ))) (clear : All (All (Clear a p points front back)) faces) where
      abbrev us : List ℕ
      us = flat (flat faces)

      abbrev after : List (List (List ℕ))
      after = map (map (halved e a)) faces

      uses_after : flat (flat after) ≡ halved e a us
      uses_after = ap flat (flat_map (halved e a) faces) ∙ flat_made (halve e a) (flat faces)

      wires_clear : All (Clear a p points front back) (flat faces)
      wires_clear = all_flat (Clear a p points front back) faces clear

      some : (vs : List ℕ) → Memᴰ vs (flat faces) → 0 < length vs
      some vs m = (all_member (Clear a p points front back) (flat faces) wires_clear vs m).0

      apart : (u : ℕ) → Memᴰ u us → IsApart u
      apart = all_member IsApart us (all_flat IsApart (flat faces) (all_weaker (Clear a p points front back) (All IsApart) (λ vs h. h.1) (flat faces) wires_clear))

      abbrev L : List Link
      L = all_links front back faces

      abbrev L' : List Link
      L' = all_links front' back' after

      -- the links of the wires stay
      wire_links_lem : flat (map (wire_links front' back') after) ≡ flat (map (wire_links front back) faces)
      wire_links_lem =
          ap flat (map-map (wire_links front' back') (map (halved e a)) faces
          ∙ map_same (λ (w : List (List ℕ)). wire_links front' back' (map (halved e a) w)) (wire_links front back) faces
          (all_weaker (All (Clear a p points front back)) (λ (w : List (List ℕ)). wire_links front' back' (map (halved e a) w) ≡ wire_links front back w)
          (λ w h. ap (λ (ps : List ℕ). links ps (drop 1 ps)) (firsts w h)) faces clear))
        where
          firsts : (w : List (List ℕ)) → All (Clear a p points front back) w → first_points front' back' (map (halved e a) w) ≡ first_points front back w
          firsts w h =
              map-map (λ (vs : List ℕ). front' (get_or vs 0 0)) (halved e a) w
              ∙ map_same (λ (vs : List ℕ). front' (get_or (halved e a vs) 0 0)) (λ (vs : List ℕ). front (get_or vs 0 0)) w
              (all_weaker (Clear a p points front back) (λ (vs : List ℕ). front' (get_or (halved e a vs) 0 0) ≡ front (get_or vs 0 0)) first_stays w h)

      -- a half and its use
      of_half : (v : ℕ) → Memᴰ v (flat (flat after)) → (u : ℕ) × Memᴰ u us × Memᴰ v (halve e a u)
      of_half v m = of_flat_map (halve e a) us (rw uses_after at m)

      half_in : (u : ℕ) → Memᴰ u us → (v : ℕ) → Memᴰ v (halve e a u) → Memᴰ v (flat (flat after))
      half_in u m v o = rw uses_after (in_flat_map (halve e a) m o)

      halves_in : (u : ℕ) → Memᴰ u us → HalvesIn L' (halve e a u)
      halves_in u m v o = in_uses front' back' after v (half_in u m v o)

      carries : Carries (λ (q : ℕ). q) L L'
      carries l m =
          ⊎_elim
          (λ (o : (u : ℕ) × Memᴰ u us × (link (front u) (back u) ≡ l)).
          let s = apart o.0 o.1 in
          rw (← o.2) (use_joined L' o.0 s.low s.named (halves_in o.0 o.1)))
          (λ (o : Memᴰ l (flat (map (wire_links front back) faces))). along l (in_wires front' back' after l (rw wire_links_lem o)) here)
          (of_faces front back faces l m)

      carries_back : Carries moved L' L
      carries_back l m =
          ⊎_elim
          (λ (o : (v : ℕ) × Memᴰ v (flat (flat after)) × (link (front' v) (back' v) ≡ l)).
          let r = of_half o.0 o.1 in
          let u = r.0 in
          rw (← o.2)
          (all_member (λ (v : ℕ). Linked L (moved (front' v)) (moved (back' v))) (halve e a u) (halves_joined L u (apart u r.1) (in_uses front back faces u r.1)) o.0 r.2))
          (λ (o : Memᴰ l (flat (map (wire_links front' back') after))).
          let k : Memᴰ l (flat (map (wire_links front back) faces)) = rw wire_links_lem at o in
          let s = wire_ends front back (λ (q : ℕ). q ≡ p → ⊥) faces some (λ u i. (apart u i).front_apart) l k in
          rw (moved_other l.a s.0, moved_other l.b s.1) (along l (in_wires front back faces l k) here))
          (of_faces front' back' after l m)

      abbrev ps : List ℕ
      ps = map front us

      abbrev ps' : List ℕ
      ps' = map front' (flat (flat after))

      side : Side points L ps
      side = record {
        inside = λ l m. ⊎_elim
            (λ (o : (u : ℕ) × Memᴰ u us × (link (front u) (back u) ≡ l)). let s = apart o.0 o.1 in rw (← o.2) (s.front_inside, s.back_inside))
            (λ (o : Memᴰ l (flat (map (wire_links front back) faces))). wire_ends front back (λ (q : ℕ). q < points) faces some (λ u i. (apart u i).front_inside) l o)
            (of_faces front back faces l m);
        under = λ x m. let r = mathlib.Core.List.Memᴰ.of_map front us m in rw (← r.2) (apart r.0 r.1).front_inside;
      }

      inside_half : (v : ℕ) → Memᴰ v (flat (flat after)) → (front' v < points) × (back' v < points)
      inside_half v m =
          let r = of_half v m in
          all_member (λ (w : ℕ). (front' w < points) × (back' w < points)) (halve e a r.0) (halves_inside r.0 (apart r.0 r.1)) v r.2

      side_after : Side points L' ps'
      side_after = record {
        inside = λ l m. ⊎_elim
            (λ (o : (v : ℕ) × Memᴰ v (flat (flat after)) × (link (front' v) (back' v) ≡ l)). rw (← o.2) (inside_half o.0 o.1))
            (λ (o : Memᴰ l (flat (map (wire_links front' back') after))).
            wire_ends front back (λ (q : ℕ). q < points) faces some (λ u i. (apart u i).front_inside) l (rw wire_links_lem at o))
            (of_faces front' back' after l m);
        under = λ x m. let r = mathlib.Core.List.Memᴰ.of_map front' (flat (flat after)) m in rw (← r.2) (inside_half r.0 r.1).0;
      }

      meets : Meets (λ (q : ℕ). q) ps L' ps'
      meets y m = let o = mathlib.Core.List.Memᴰ.of_map front' (flat (flat after)) m in at o.0 o.1 o.2
        where
          at : (v : ℕ) → Memᴰ v (flat (flat after)) → front' v ≡ y → (x : ℕ) × Memᴰ x ps × Linked L' x y
          at v i z =
              let r = of_half v i in
              let u = r.0 in
              let s = apart u r.1 in
              let k : Linked L' (front u) (front' v) =
              all_member (λ (w : ℕ). Linked L' (front u) (front' w)) (halve e a u) (fronts_joined L' u s.low s.named (halves_in u r.1)) v r.2 in
              (front u, mathlib.Core.List.Memᴰ.map front r.1, rw z at k)

      meets_back : Meets moved ps' L ps
      meets_back x m =
          let o = mathlib.Core.List.Memᴰ.of_map front us m in
          let u = o.0 in
          let s = apart u o.1 in
          let r = begins u s.low s.named in
          (front' r.0, mathlib.Core.List.Memᴰ.map front' (half_in u o.1 r.0 r.1), rw (r.2, moved_other (front u) s.front_apart, o.2) here)

      pub connected_halved : connected_of front' back' points (map (map (halved e a)) faces) ≡ connected_of front back points faces
      unfolding connected_of
      connected_halved = sym (one_group_kept points points L L' ps ps' side side_after (λ (q : ℕ). q) moved carries carries_back meets meets_back)
