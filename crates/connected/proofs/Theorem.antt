-- Which faces there are decides whether they are connected, not how often or in which sequence they are listed.
use Prim.Native.Nat.{◌<◌, ℕ}
use mathlib.Core.List.Memᴰ
use mathlib.Core.List.{List, Memᴰ, [], ◌++◌, ◌∷◌, map}
use mathlib.Core.Logic.{◌⊎◌, inl, inr, ⊎_elim}
use mathlib.Core.Path.{◌≡◌, sym}
use lib.ListN.{drop, get_or, length}
use Rattle.lists.specs.Lists.{flat}
use Rattle.groups.proofs.Alike.{Under, Within, in_flat, in_flat_map, member_at, of_flat, of_flat_map, one_group_alike, within_flat, within_flat_map, within_map}
use Rattle.groups.proofs.Laws.{inside_links}
use Rattle.groups.proofs.Members.{links_map}
use Rattle.groups.specs.Groups.{Inside, Link, link, links, one_group}
use Rattle.shell.specs.Connected.{connected_of, face_links, first_points}
use Rattle.connected.specs.Wired.{neighbours}

-- no wire is without uses, and the uses begin and end at points below `points`
pub record Placed (front back : ℕ → ℕ) (points : ℕ) (W : List (List (List ℕ))) : Type 0 where
  pub some : (us : List ℕ) → Memᴰ us (flat W) → 0 < length us
  pub below : (u : ℕ) → Memᴰ u (flat (flat W)) → (front u < points) × (back u < points)

pub within_rest : {A : Type 0} (xs : List A) → Within (drop 1 xs) xs
within_rest [] x m = m
within_rest (y ∷ ys) x m = Memᴰ.tail m

module _ (front back : ℕ → ℕ) where
  abbrev use_link : ℕ → Link
  use_link u = link (front u) (back u)

  abbrev wire_links : List (List ℕ) → List Link
  wire_links w = neighbours (first_points front back w)

  -- the links of the uses, then those of the wires
  abbrev pub apart : List (List (List ℕ)) → List Link
  apart W = links (map front (flat (flat W))) (map back (flat (flat W))) ++ flat (map wire_links W)

  -- ---- the links of a face
  use_in : (w : List (List ℕ)) (u : ℕ) → Memᴰ u (flat w) → Memᴰ (use_link u) (face_links front back w)
  unfolding face_links
  use_in w u m = rw (links_map front back (flat w)) (Memᴰ.append_left (wire_links w) (Memᴰ.map use_link m))

  wire_in : (w : List (List ℕ)) (l : Link) → Memᴰ l (wire_links w) → Memᴰ l (face_links front back w)
  unfolding face_links
  wire_in w l m = Memᴰ.append_right (links (map front (flat w)) (map back (flat w))) m

  of_face : (w : List (List ℕ)) (l : Link) → Memᴰ l (face_links front back w)
      → ((u : ℕ) × Memᴰ u (flat w) × (use_link u ≡ l)) ⊎ Memᴰ l (wire_links w)
  unfolding face_links
  of_face w l m =
      ⊎_elim
      (λ (o : Memᴰ l (links (map front (flat w)) (map back (flat w)))). inl (Memᴰ.of_map use_link (flat w) (rw (links_map front back (flat w)) at o)))
      (λ (o : Memᴰ l (wire_links w)). inr o)
      (Memᴰ.append_cases (links (map front (flat w)) (map back (flat w))) m)

  -- ---- the same links
  apart_faces : (W : List (List (List ℕ))) → Within (apart W) (flat (map (face_links front back) W))
  apart_faces W l m =
      ⊎_elim
      (λ (o : Memᴰ l (links (map front (flat (flat W))) (map back (flat (flat W))))).
      let q = Memᴰ.of_map use_link (flat (flat W)) (rw (links_map front back (flat (flat W))) at o) in
      let r = of_flat (flat W) q.1 in
      let s = of_flat W r.1 in
      in_flat_map (face_links front back) s.1 (Memᴰ.cast (sym q.2) (use_in s.0 q.0 (in_flat s.0 s.2 r.2))))
      (λ (o : Memᴰ l (flat (map wire_links W))).
      let r = of_flat_map wire_links W o in
      in_flat_map (face_links front back) r.1 (wire_in r.0 l r.2))
      (Memᴰ.append_cases (links (map front (flat (flat W))) (map back (flat (flat W)))) m)

  -- the use stands in the faces
  use_of_lem : (W : List (List (List ℕ))) (w : List (List ℕ)) (u : ℕ) → Memᴰ w W → Memᴰ u (flat w) → Memᴰ u (flat (flat W))
  use_of_lem W w u m o = let r = of_flat w o in in_flat (flat W) (in_flat W m r.1) r.2

  faces_apart : (W : List (List (List ℕ))) → Within (flat (map (face_links front back) W)) (apart W)
  faces_apart W l m =
      let r = of_flat_map (face_links front back) W m in
      ⊎_elim
      (λ (o : (u : ℕ) × Memᴰ u (flat r.0) × (use_link u ≡ l)).
      rw (links_map front back (flat (flat W)), ← o.2)
      (Memᴰ.append_left (flat (map wire_links W)) (Memᴰ.map use_link (use_of_lem W r.0 o.0 r.1 o.1))))
      (λ (o : Memᴰ l (wire_links r.0)).
      Memᴰ.append_right (links (map front (flat (flat W))) (map back (flat (flat W)))) (in_flat_map wire_links r.1 o))
      (of_face r.0 l r.2)

  module _ (points : ℕ) where
    module _ (W : List (List (List ℕ))) (p : Placed front back points W) where
      pub under_firsts : (w : List (List ℕ)) → Within w (flat W) → Under points (first_points front back w)
      under_firsts w i x m =
          let r = Memᴰ.of_map (λ (us : List ℕ). front (get_or us 0 0)) w m in
          let us = r.0 in
          let o = i us r.1 in
          rw (← r.2) (p.below (get_or us 0 0) (in_flat (flat W) o (member_at 0 us 0 (p.some us o)))).0

      inside_wires : (w : List (List ℕ)) → Memᴰ w W → Inside points (wire_links w)
      inside_wires w m =
          let u = under_firsts w (λ us o. in_flat W m o) in
          inside_links points (first_points front back w) (drop 1 (first_points front back w)) u (λ x o. u x (within_rest (first_points front back w) x o))

      inside_faces : Inside points (flat (map (face_links front back) W))
      inside_faces l m =
          let r = of_flat_map (face_links front back) W m in
          ⊎_elim
          (λ (o : (u : ℕ) × Memᴰ u (flat r.0) × (use_link u ≡ l)). rw (← o.2) (p.below o.0 (use_of_lem W r.0 o.0 r.1 o.1)))
          (λ (o : Memᴰ l (wire_links r.0)). inside_wires r.0 r.1 l o)
          (of_face r.0 l r.2)

      under_fronts : Under points (map front (flat (flat W)))
      under_fronts x m = let r = Memᴰ.of_map front (flat (flat W)) m in rw (← r.2) (p.below r.0 r.1).0

      -- the links may be taken use by use, then wire by wire
      pub connected_apart : one_group points (apart W) (map front (flat (flat W))) ≡ connected_of front back points W
      unfolding connected_of
      connected_apart =
          let ps = map front (flat (flat W)) in
          one_group_alike points (apart W) (flat (map (face_links front back) W)) ps ps (λ l m. inside_faces l (apart_faces W l m)) inside_faces under_fronts
          (λ x m. m) (λ x m. m) (apart_faces W) (faces_apart W)

    placed_within : (W W' : List (List (List ℕ))) → Within W' W → Placed front back points W → Placed front back points W'
    placed_within W W' w p = record {
      some = λ us m. p.some us (within_flat w us m);
      below = λ u m. p.below u (within_flat (within_flat w) u m);
    }

    -- faces with the same members are connected alike: a face listed twice changes nothing
    pub connected_alike : (W W' : List (List (List ℕ))) → Placed front back points W → Within W W' → Within W' W
        → connected_of front back points W ≡ connected_of front back points W'
    unfolding connected_of
    connected_alike W W' p to from =
        one_group_alike points (flat (map (face_links front back) W)) (flat (map (face_links front back) W'))
        (map front (flat (flat W))) (map front (flat (flat W')))
        (inside_faces W p) (inside_faces W' (placed_within W W' from p)) (under_fronts W p)
        (within_map front (within_flat (within_flat to))) (within_map front (within_flat (within_flat from)))
        (within_flat_map (face_links front back) to) (within_flat_map (face_links front back) from)
