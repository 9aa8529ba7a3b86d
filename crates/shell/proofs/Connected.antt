-- Connected: the labels of the points tell exactly what chains of uses and of neighbouring wires join.
use Prim.Native.Nat.{◌+◌, ◌<◌, ◌≤◌, suc, ℕ}
use mathlib.Core.Bool.{false, true}
use mathlib.Core.List.Memᴰ
use mathlib.Core.List.{List, Memᴰ, [], map}
use mathlib.Core.Logic.{inl, ⊎_elim}
use mathlib.Core.Path.{◌∙◌, ◌≡◌}
use native.Mathlib.Omega.{arith}
use lib.Dec.{leb}
use lib.ListN.{get_or-map, drop, get_or, length, length-drop, length-map}
use lib.Seq.{get_or-drop}
use Rattle.edge.specs.Uses.{edge_number, front_of}
use Rattle.groups.proofs.Alike.{in_flat, in_flat_map, member_at, of_flat, of_flat_map, one_group_larger}
use Rattle.groups.proofs.Meaning.{back as turn, chain as Link-up, linked_one_group, one_group_linked}
use Rattle.groups.proofs.Members.{all_member, in_links, links_map, of_links}
use Rattle.groups.specs.Groups.{Inside, Link, Linked, against, along, here, link, links}
use Rattle.lists.proofs.Flat.{get_d_any}
use Rattle.lists.proofs.Laws.{cases}
use Rattle.lists.specs.Lists.{flat}
use Rattle.pattern.proofs.Named.{back_named, front_named}
use Rattle.pattern.proofs.Passed.{content_passed, records_passed}
use Rattle.pattern.specs.Checks.{content_faults}
use Rattle.pattern.specs.Contents.{Content}
use Rattle.shell.proofs.Shown.{Uses, wires_used}
use Rattle.shell.specs.Connected.{connected, connected_of, face_links, first_points}
use Rattle.shell.specs.Meaning.{Chain, ConnectedMeans, PointStep, UsePoint, ◌∈◌, backward, by_use, by_wires, first_point, onward, still}
use Rattle.shell.specs.Openings.{back_in, front_in}
use Rattle.shell.specs.Shells.{shell_faces, shell_uses, shell_wires}

-- ---- chains of links and of steps
module _ {L : List Link} {Step : ℕ → ℕ → Type 0} where
  pub linked_chain : ((l : Link) → Memᴰ l L → Step l.a l.b) → {x y : ℕ} → Linked L x y → Chain Step x y
  linked_chain f here = still
  linked_chain f (along l m p) = onward (f l m) (linked_chain f p)
  linked_chain f (against l m p) = backward (f l m) (linked_chain f p)

  pub chain_linked : ((x y : ℕ) → Step x y → Memᴰ (link x y) L) → {x y : ℕ} → Chain Step x y → Linked L x y
  chain_linked f still = here
  chain_linked f (onward {x} {y} s p) = along (link x y) (f x y s) (chain_linked f p)
  chain_linked f (backward {x} {y} s p) = against (link y x) (f y x s) (chain_linked f p)

module _ (c : Content) (ok : content_faults c ≡ []) where
  -- a use that names an edge begins and ends at points
  pub ends_named : (u : ℕ) → edge_number u < length c.edges → (front_in c u < length c.points) × (back_in c u < length c.points)
  unfolding front_of
  ends_named u h =
      let fine = (records_passed c (content_passed c ok).records).edges in
      let f = front_named c fine (edge_number u) h in
      let b = back_named c fine (edge_number u) h in
      ⊎_elim (λ (r : leb 32768 u ≡ true). rw r (b, f)) (λ (r : leb 32768 u ≡ false). rw r (f, b)) (cases (leb 32768 u))

  module _ (n : ℕ) where
    -- the wires of the shell
    pub wire_uses : (us : List ℕ) → us ∈ shell_wires c n → Uses (length c.edges) us
    wire_uses us m = all_member (Uses (length c.edges)) (shell_wires c n) (wires_used c ok n) us m

    pub use_edge : (u : ℕ) → u ∈ shell_uses c n → edge_number u < length c.edges
    use_edge u m =
        let r = of_flat (shell_wires c n) m in
        all_member (λ (v : ℕ). edge_number v < length c.edges) r.0 (wire_uses r.0 r.1).1 u r.2

    -- ---- the links
    abbrev L : List Link
    L = flat (map (face_links (front_in c) (back_in c)) (shell_faces c n))

    abbrev fronts : List ℕ
    fronts = map (front_in c) (shell_uses c n)

    first_at : (wires : List (List ℕ)) (k : ℕ) → k < length wires → get_or (first_points (front_in c) (back_in c) wires) k 0 ≡ first_point c n wires k
    first_at wires k h =
        let first : List ℕ → ℕ = λ (us : List ℕ). front_in c (get_or us 0 0) in
        get_d_any (map first wires) k 0 (first []) (omega (arith, h, length-map wires first)) ∙ get_or-map first wires k []

    next_at : (wires : List (List ℕ)) (k : ℕ) → suc k < length wires → get_or (drop 1 (first_points (front_in c) (back_in c) wires)) k 0 ≡ first_point c n wires (suc k)
    next_at wires k h = let z : 1 + k ≡ suc k = omega arith in get_or-drop 1 (first_points (front_in c) (back_in c) wires) k 0 ∙ rw z (first_at wires (suc k) h)

    step_link : (p q : ℕ) → PointStep c n p q → Memᴰ (link p q) L
    unfolding face_links shell_wires
    step_link p q (by_use u m) =
        let r = of_flat (shell_wires c n) m in
        let w = of_flat (shell_faces c n) r.1 in
        in_flat_map (face_links (front_in c) (back_in c)) w.1
        (rw (links_map (front_in c) (back_in c) (flat w.0))
        (Memᴰ.append_left (links (first_points (front_in c) (back_in c) w.0) (drop 1 (first_points (front_in c) (back_in c) w.0)))
        (Memᴰ.map (λ (v : ℕ). link (front_in c v) (back_in c v)) (in_flat w.0 w.2 r.2))))
    step_link p q (by_wires wires m k h) =
        let fp = first_points (front_in c) (back_in c) wires in
        let long = length-map wires (λ (us : List ℕ). front_in c (get_or us 0 0)) in
        in_flat_map (face_links (front_in c) (back_in c)) m
        (Memᴰ.append_right (links (map (front_in c) (flat wires)) (map (back_in c) (flat wires)))
        (rw (first_at wires k (omega (arith, h)), next_at wires k h) at (in_links fp (drop 1 fp) k (omega (arith, h, long)) (omega (arith, h, long, length-drop 1 fp)))))

    step_cast : {p q p' q' : ℕ} → p ≡ p' → q ≡ q' → PointStep c n p' q' → PointStep c n p q
    step_cast e f s = rw (e, f) s

    link_step : (l : Link) → Memᴰ l L → PointStep c n l.a l.b
    unfolding face_links shell_wires
    link_step l m =
        let r = of_flat_map (face_links (front_in c) (back_in c)) (shell_faces c n) m in
        let wires = r.0 in
        let fp = first_points (front_in c) (back_in c) wires in
        let long = length-map wires (λ (us : List ℕ). front_in c (get_or us 0 0)) in
        ⊎_elim
        (λ (o : Memᴰ l (links (map (front_in c) (flat wires)) (map (back_in c) (flat wires)))).
        let s = Memᴰ.of_map (λ (v : ℕ). link (front_in c v) (back_in c v)) (flat wires) (rw (links_map (front_in c) (back_in c) (flat wires)) at o) in
        let w = of_flat wires s.1 in
        rw (← s.2) (by_use s.0 (in_flat (shell_wires c n) (in_flat (shell_faces c n) r.1 w.1) w.2)))
        (λ (o : Memᴰ l (links fp (drop 1 fp))).
        let s = of_links fp (drop 1 fp) l o in
        let h : suc s.0 < length wires = omega (arith, s.2, long, length-drop 1 fp) in
        step_cast (s.3 ∙ first_at wires s.0 (omega (arith, h))) (s.4 ∙ next_at wires s.0 h)
        (by_wires wires r.1 s.0 h))
        (Memᴰ.append_cases (links (map (front_in c) (flat wires)) (map (back_in c) (flat wires))) r.2)

    -- a step is between points
    step_named : (p q : ℕ) → PointStep c n p q → (p < length c.points) × (q < length c.points)
    unfolding shell_wires
    step_named p q (by_use u m) = ends_named u (use_edge u m)
    step_named p q (by_wires wires m k h) = (first k (omega (arith, h)), first (suc k) h)
      where
        first : (j : ℕ) → j < length wires → first_point c n wires j < length c.points
        first j i =
            let us = get_or wires j [] in
            let o : us ∈ shell_wires c n = in_flat (shell_faces c n) m (member_at [] wires j i) in
            (ends_named (get_or us 0 0) (use_edge (get_or us 0 0) (in_flat (shell_wires c n) o (member_at 0 us 0 (wire_uses us o).0)))).0

    inside : Inside (length c.points) L
    inside l m = step_named l.a l.b (link_step l m)

    below : (x : ℕ) → Memᴰ x fronts → x < length c.points
    below x m = let r = Memᴰ.of_map (front_in c) (shell_uses c n) m in rw (← r.2) (ends_named r.0 (use_edge r.0 r.1)).0

    -- points that no use has change nothing
    pub connected_larger : (points : ℕ) → length c.points ≤ points → connected_of (front_in c) (back_in c) points (shell_faces c n) ≡ connected c n
    unfolding connected_of shell_wires
    connected_larger points h = one_group_larger (length c.points) points L fronts h inside below

    -- a point of a use is joined with the front of that use
    to_front : (p : ℕ) → UsePoint c n p → (x : ℕ) × Memᴰ x fronts × Linked L x p
    to_front p h =
        let u = h.by in (
          front_in c u,
          Memᴰ.map (front_in c) h.listed,
          ⊎_elim
              (λ (e : front_in c u ≡ p). rw e here)
              (λ (e : back_in c u ≡ p). rw (← e) (along (link (front_in c u) (back_in c u)) (step_link _ _ (by_use u h.listed)) here))
              h.at,
        )

    front_point : (x : ℕ) → Memᴰ x fronts → UsePoint c n x
    front_point x m = let r = Memᴰ.of_map (front_in c) (shell_uses c n) m in record { by = r.0; listed = r.1; at = inl r.2 }

    pub connected_is : ConnectedMeans c n
    unfolding connected_of shell_wires
    connected_is = (
      (λ e p q hp hq.
          let x = to_front p hp in
          let y = to_front q hq in
          linked_chain link_step (Link-up (turn x.2) (Link-up (one_group_linked (length c.points) L inside fronts below e x.0 y.0 x.1 y.1) y.2))),
      (λ f. linked_one_group (length c.points) L inside fronts below (λ x y mx my. chain_linked step_link (f x y (front_point x mx) (front_point y my)))),
    )
