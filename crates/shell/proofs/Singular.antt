-- Singular points: the labels of the edges' ends tell exactly what chains of neighbours on wires join at a point.
use Prim.Native.Nat.{◌%◌, ◌*◌, ◌+◌, ◌/◌, ◌<◌, ℕ}
use mathlib.Core.Bool.{Bool, false, true}
use mathlib.Core.List.Memᴰ
use mathlib.Core.List.{List, Memᴰ, [], ◌∷◌, map}
use mathlib.Core.Logic.{◌⊎◌, inl, inr, ⊎_elim}
use mathlib.Core.Path.{◌∙◌, ◌≡◌, ap, refl, sym}
use native.Mathlib.Omega.{arith}
use lib.Dec.{eqb, leb}
use lib.ListN.{get_or, length, length-map}
use borrow.Author.Tests.{eq-eqb, eqb-false, eqb-true, not-true}
use Rattle.edge.specs.Edges.{back_number, front_number}
use Rattle.edge.specs.Uses.{edge_number, front_of}
use Rattle.groups.proofs.Alike.{in_flat_map, member_at, of_flat_map}
use Rattle.groups.proofs.All.{column_at}
use Rattle.groups.proofs.Meaning.{one_group_linked, several_groups}
use Rattle.groups.proofs.Members.{all_member, in_links, in_numbers, in_only, of_links, of_numbers, of_only}
use Rattle.groups.specs.Groups.{Inside, Link, Linked, against, along, here, link, one_group}
use Rattle.lists.proofs.Laws.{cases, eqb_sym}
use Rattle.lists.proofs.Marks.{AllBelow}
use Rattle.lists.specs.Lists.{flat, numbers, pick, rotated}
use Rattle.pattern.proofs.Named.{ends_apart}
use Rattle.pattern.proofs.Passed.{content_passed}
use Rattle.pattern.specs.Checks.{content_faults}
use Rattle.pattern.specs.Contents.{Content}
use Rattle.shell.proofs.Ascending.{ascends_numbers, ascends_only}
use Rattle.shell.proofs.Connected.{ends_named, use_edge, wire_uses}
use Rattle.shell.proofs.Shown.{length_rotated, next_begins, wires_closed}
use Rattle.shell.specs.Meaning.{Chain, EdgeAt, NeighboursAt, SeveralGroups, SingularMean, ◌∈◌, backward, on_wire, onward, still}
use Rattle.shell.specs.Openings.{back_in, front_in}
use Rattle.shell.specs.Shells.{shell_uses, shell_wires}
use Rattle.shell.specs.Singular.{corners, ends_at, ends_of, first_end, is_singular, last_end, singular_of}
use Rattle.wire.specs.Wires.{closed}

of_rotated : (xs : List ℕ) (x : ℕ) → x ∈ rotated xs → x ∈ xs
of_rotated [] x o = o
of_rotated (y ∷ ys) x o =
    ⊎_elim (λ i. Memᴰ.tail i) (λ i. Memᴰ.head (Memᴰ.eq_of_singleton i)) (Memᴰ.append_cases ys o)

-- ---- the end of an edge: its edge, and the point where it is
module _ (fs bs : List ℕ) where
  abbrev point_at : ℕ → ℕ
  point_at x = pick (eqb (x % 2) 0) (get_or fs (x / 2) 0) (get_or bs (x / 2) 0)

  even_end : (e : ℕ) → (point_at (2 * e) ≡ get_or fs e 0) × (2 * e / 2 ≡ e)
  even_end e =
      let a : 2 * e % 2 ≡ 0 = omega arith in
      let b : 2 * e / 2 ≡ e = omega arith in
      (rw (a, b), b)

  odd_end : (e : ℕ) → (point_at (2 * e + 1) ≡ get_or bs e 0) × ((2 * e + 1) / 2 ≡ e)
  odd_end e =
      let a : (2 * e + 1) % 2 ≡ 1 = omega arith in
      let b : (2 * e + 1) / 2 ≡ e = omega arith in
      (rw (a, b), b)

  first_end_lem : (u : ℕ) → (point_at (first_end u) ≡ front_of fs bs u) × (first_end u / 2 ≡ edge_number u)
  unfolding front_of
  first_end_lem u =
      ⊎_elim
      (λ (r : leb 32768 u ≡ true). rw r (odd_end (edge_number u)))
      (λ (r : leb 32768 u ≡ false). rw r (even_end (edge_number u)))
      (cases (leb 32768 u))

  last_end_lem : (u : ℕ) → (point_at (last_end u) ≡ front_of bs fs u) × (last_end u / 2 ≡ edge_number u)
  unfolding front_of
  last_end_lem u =
      ⊎_elim
      (λ (r : leb 32768 u ≡ true). rw r (even_end (edge_number u)))
      (λ (r : leb 32768 u ≡ false). rw r (odd_end (edge_number u)))
      (cases (leb 32768 u))

  -- an edge whose ends are apart has one end at a point
  one_end : (x y : ℕ) → x / 2 ≡ y / 2 → eqb (get_or fs (y / 2) 0) (get_or bs (y / 2) 0) ≡ false → point_at x ≡ point_at y → x ≡ y
  one_end x y e apart h = go (eqb (x % 2) 0) (eqb (y % 2) 0) refl refl (rw e at h)
    where
      f : ℕ
      f = get_or fs (y / 2) 0

      b : ℕ
      b = get_or bs (y / 2) 0

      go : (i j : Bool) → eqb (x % 2) 0 ≡ i → eqb (y % 2) 0 ≡ j → pick i f b ≡ pick j f b → x ≡ y
      go true true a d o = omega (arith, e, eqb-true (x % 2) 0 a, eqb-true (y % 2) 0 d)
      go true false a d o = absurd (eqb-false f b apart o)
      go false true a d o = absurd (eqb-false f b apart (sym o))
      go false false a d o = odds (eqb-false (x % 2) 0 a) (eqb-false (y % 2) 0 d)
        where
          odds : (x % 2 ≡ 0 → ⊥) → (y % 2 ≡ 0 → ⊥) → x ≡ y
          odds a d = omega (arith, e)

module _ (c : Content) (ok : content_faults c ≡ []) (small : AllBelow 65536 c.uses) (n : ℕ) where
  abbrev fs : List ℕ
  fs = map front_number c.edges

  abbrev bs : List ℕ
  bs = map back_number c.edges

  abbrev m : ℕ
  m = length c.edges

  abbrev at : ℕ → ℕ
  at x = point_at fs bs x

  abbrev L : List Link
  L = flat (map corners (shell_wires c n))

  -- the use at a place of a wire, and the next
  wire_edge : (us : List ℕ) → us ∈ shell_wires c n → (u : ℕ) → u ∈ us → edge_number u < m
  wire_edge us o u i = all_member (λ (v : ℕ). edge_number v < m) us (wire_uses c ok n us o).1 u i

  -- its ends are apart
  ends_differ : (u : ℕ) → edge_number u < m → eqb (get_or fs (edge_number u) 0) (get_or bs (edge_number u) 0) ≡ false
  unfolding front_of
  ends_differ u h =
      let a = ends_apart c (content_passed c ok).records u h in
      ⊎_elim
      (λ (r : leb 32768 u ≡ true). eqb_sym (get_or fs (edge_number u) 0) (get_or bs (edge_number u) 0) ∙ rw r at a)
      (λ (r : leb 32768 u ≡ false). rw r at a)
      (cases (leb 32768 u))

  -- an end of the edge of use u at point p is the one where u ends, or begins
  is_last : (u x p : ℕ) → edge_number u < m → x / 2 ≡ edge_number u → at x ≡ p → back_in c u ≡ p → x ≡ last_end u
  is_last u x p h e a b =
      let l = last_end_lem fs bs u in
      one_end fs bs x (last_end u) (e ∙ sym l.1) (rw l.1 (ends_differ u h)) (a ∙ sym b ∙ sym l.0)

  is_first_lem : (u x p : ℕ) → edge_number u < m → x / 2 ≡ edge_number u → at x ≡ p → front_in c u ≡ p → x ≡ first_end u
  is_first_lem u x p h e a b =
      let l = first_end_lem fs bs u in
      one_end fs bs x (first_end u) (e ∙ sym l.1) (rw l.1 (ends_differ u h)) (a ∙ sym b ∙ sym l.0)

  -- ---- the links: where a use ends the next begins
  pub record Corner (a b : ℕ) : Type 0 where
    pub wire : List ℕ
    pub listed : wire ∈ shell_wires c n
    pub place : ℕ
    pub low : place < length wire
    pub left : a ≡ last_end (get_or wire place 0)
    pub right : b ≡ first_end (get_or (rotated wire) place 0)

  of_corner : (l : Link) → Memᴰ l L → Corner l.a l.b
  unfolding corners
  of_corner l o =
      let r = of_flat_map corners (shell_wires c n) o in
      let us = r.0 in
      let s = of_links (map last_end us) (map first_end (rotated us)) l r.2 in
      let h : s.0 < length us = omega (arith, s.1, length-map us last_end) in
      record {
        wire = us;
        listed = r.1;
        place = s.0;
        low = h;
        left = s.3 ∙ column_at last_end us s.0 h;
        right = s.4 ∙ column_at first_end (rotated us) s.0 (omega (arith, h, length_rotated us));
      }

  in_corner : (us : List ℕ) → us ∈ shell_wires c n → (k : ℕ) → k < length us
      → Memᴰ (link (last_end (get_or us k 0)) (first_end (get_or (rotated us) k 0))) L
  unfolding corners
  in_corner us o k h =
      let i : k < length (rotated us) = omega (arith, h, length_rotated us) in
      in_flat_map corners o
      (rw (column_at last_end us k h, column_at first_end (rotated us) k i) at
      (in_links (map last_end us) (map first_end (rotated us)) k (omega (arith, h, length-map us last_end)) (omega (arith, i, length-map (rotated us) first_end))))

  module _ (us : List ℕ) (o : us ∈ shell_wires c n) (k : ℕ) (h : k < length us) where
    abbrev u : ℕ
    u = get_or us k 0

    abbrev v : ℕ
    v = get_or (rotated us) k 0

    this_edge : edge_number u < m
    this_edge = wire_edge us o u (member_at 0 us k h)

    next_edge : edge_number v < m
    next_edge = wire_edge us o v (of_rotated us v (member_at 0 (rotated us) k (omega (arith, h, length_rotated us))))

    next_point : front_in c v ≡ back_in c u
    next_point = next_begins fs bs us k (all_member (λ (ws : List ℕ). closed fs bs ws ≡ true) (shell_wires c n) (wires_closed c ok small n) us o) h

  inside : Inside (2 * m) L
  inside l o =
      let r = of_corner l o in
      let a = (last_end_lem fs bs (get_or r.wire r.place 0)).1 in
      let b = (first_end_lem fs bs (get_or (rotated r.wire) r.place 0)).1 in
      (omega (arith, r.left, a, this_edge r.wire r.listed r.place r.low), omega (arith, r.right, b, next_edge r.wire r.listed r.place r.low))

  -- ---- chains of ends at point p are chains of edges there
  module _ (p : ℕ) where
    abbrev Near : ℕ → ℕ → Type 0
    Near = NeighboursAt c n p

    near_cast : {e f e' f' : ℕ} → e ≡ e' → f ≡ f' → Near e' f' → Near e f
    near_cast e f s = rw (e, f) s

    -- both ends of a link are at p if one is
    record Turn (a b : ℕ) : Type 0 where
      near : Near (a / 2) (b / 2)
      left : at a ≡ p
      right : at b ≡ p

    turn : (a b : ℕ) → Corner a b → (at a ≡ p) ⊎ (at b ≡ p) → Turn a b
    turn a b r h =
        let us = r.wire in
        let k = r.place in
        let la = last_end_lem fs bs (get_or us k 0) in
        let fb = first_end_lem fs bs (get_or (rotated us) k 0) in
        let pa : at a ≡ back_in c (get_or us k 0) = ap at r.left ∙ la.0 in
        let pb : at b ≡ front_in c (get_or (rotated us) k 0) = ap at r.right ∙ fb.0 in
        let same : at b ≡ at a = pb ∙ next_point us r.listed k r.low ∙ sym pa in
        let here : at a ≡ p = ⊎_elim (λ e. e) (λ e. sym same ∙ e) h in
        record {
          near = near_cast (ap (λ (x : ℕ). x / 2) r.left ∙ la.1) (ap (λ (x : ℕ). x / 2) r.right ∙ fb.1) (on_wire us r.listed k r.low (sym pa ∙ here));
          left = here;
          right = same ∙ here;
        }

    ends_edges : {x y : ℕ} → Linked L x y → at x ≡ p → Chain Near (x / 2) (y / 2)
    ends_edges here h = still
    ends_edges (along l o q) h = let t = turn l.a l.b (of_corner l o) (inl h) in onward t.near (ends_edges q t.right)
    ends_edges (against l o q) h = let t = turn l.a l.b (of_corner l o) (inr h) in backward t.near (ends_edges q t.left)

    edges_ends : {e f : ℕ} → Chain Near e f → (x y w : ℕ) → x / 2 ≡ e → y / 2 ≡ f → x / 2 ≡ edge_number w → edge_number w < m → at x ≡ p → at y ≡ p → Linked L x y
    edges_ends still x y w ex ey ew l ax ay =
        let same : y / 2 ≡ edge_number w = ey ∙ sym ex ∙ ew in
        let z : x ≡ y = one_end fs bs x y (ex ∙ sym ey) (rw same (ends_differ w l)) (ax ∙ sym ay) in
        rw z here
    edges_ends (onward (on_wire us o k h b) q) x y w ex ey ew l ax ay =
        let e = is_last (get_or us k 0) x p (this_edge us o k h) ex ax b in
        let v = get_or (rotated us) k 0 in
        let f = first_end_lem fs bs v in
        rw e (along (link (last_end (get_or us k 0)) (first_end v)) (in_corner us o k h)
        (edges_ends q (first_end v) y v f.1 ey f.1 (next_edge us o k h) (f.0 ∙ next_point us o k h ∙ b) ay))
    edges_ends (backward (on_wire us o k h b) q) x y w ex ey ew l ax ay =
        let e = is_first_lem (get_or (rotated us) k 0) x p (next_edge us o k h) ex ax (next_point us o k h ∙ b) in
        let u = get_or us k 0 in
        let f = last_end_lem fs bs u in
        rw e (against (link (last_end u) (first_end (get_or (rotated us) k 0))) (in_corner us o k h)
        (edges_ends q (last_end u) y u f.1 ey f.1 (this_edge us o k h) (f.0 ∙ b) ay))

    -- ---- the ends at p
    abbrev ends : List ℕ
    ends = ends_at (front_in c) (back_in c) p (shell_uses c n)

    -- the end x is at p, of the edge of a use that begins or ends there
    pub record End (x : ℕ) : Type 0 where
      pub user : ℕ
      pub listed : user ∈ shell_uses c n
      pub edge : x / 2 ≡ edge_number user
      pub is_at : at x ≡ p
      pub there : (front_in c user ≡ p) ⊎ (back_in c user ≡ p)

    one : {x y : ℕ} (b : Bool) → Memᴰ x (pick b (y ∷ []) []) → (b ≡ true) × (x ≡ y)
    one true o = (refl, Memᴰ.eq_of_singleton o)
    one false o = absurd (Memᴰ.not-nil o)

    picked : (b : Bool) (x : ℕ) → b ≡ true → Memᴰ x (pick b (x ∷ []) [])
    picked b x t = rw t (Memᴰ.head refl)

    of_ends : (x : ℕ) → Memᴰ x ends → End x
    unfolding ends_at
    of_ends x o =
        let r = of_flat_map (ends_of (front_in c) (back_in c) p) (shell_uses c n) o in
        let u = r.0 in
        let f = first_end_lem fs bs u in
        let l = last_end_lem fs bs u in
        ⊎_elim
        (λ (i : Memᴰ x (pick (eqb (front_in c u) p) (first_end u ∷ []) [])).
        let s = one (eqb (front_in c u) p) i in
        let b = eqb-true (front_in c u) p s.0 in
        record { user = u; listed = r.1; edge = ap (λ (y : ℕ). y / 2) s.1 ∙ f.1; is_at = ap at s.1 ∙ f.0 ∙ b; there = inl b })
        (λ (i : Memᴰ x (pick (eqb (back_in c u) p) (last_end u ∷ []) [])).
        let s = one (eqb (back_in c u) p) i in
        let b = eqb-true (back_in c u) p s.0 in
        record { user = u; listed = r.1; edge = ap (λ (y : ℕ). y / 2) s.1 ∙ l.1; is_at = ap at s.1 ∙ l.0 ∙ b; there = inr b })
        (Memᴰ.append_cases (pick (eqb (front_in c u) p) (first_end u ∷ []) []) r.2)

    in_ends : (e : ℕ) → EdgeAt c n p e → (x : ℕ) × Memᴰ x ends × (x / 2 ≡ e)
    unfolding ends_at
    in_ends e h =
        let u = h.by in
        let into : (x : ℕ) → Memᴰ x (ends_of (front_in c) (back_in c) p u) → Memᴰ x ends = λ x i. in_flat_map (ends_of (front_in c) (back_in c) p) h.listed i in
        ⊎_elim
        (λ (b : front_in c u ≡ p).
        let o = picked (eqb (front_in c u) p) (first_end u) (eq-eqb (front_in c u) p b) in
        (first_end u, into (first_end u) (Memᴰ.append_left (pick (eqb (back_in c u) p) (last_end u ∷ []) []) o), (first_end_lem fs bs u).1 ∙ h.edge))
        (λ (b : back_in c u ≡ p).
        let o = picked (eqb (back_in c u) p) (last_end u) (eq-eqb (back_in c u) p b) in
        (last_end u, into (last_end u) (Memᴰ.append_right (pick (eqb (front_in c u) p) (first_end u ∷ []) []) o), (last_end_lem fs bs u).1 ∙ h.edge))
        h.at

    end_below : (x : ℕ) → Memᴰ x ends → x < 2 * m
    end_below x o = let r = of_ends x o in omega (arith, r.edge, use_edge c ok n r.user r.listed)

    end_edge : (x : ℕ) → End x → EdgeAt c n p (x / 2)
    end_edge x r = record { by = r.user; listed = r.listed; edge = sym r.edge; at = r.there }

    several : one_group (2 * m) L ends ≡ false → SeveralGroups c n p
    several h =
        let s = several_groups (2 * m) L inside ends end_below h in
        let x = of_ends s.0 s.2 in
        let y = of_ends s.1 s.3 in record {
          one = s.0 / 2;
          other = s.1 / 2;
          one_at = end_edge s.0 x;
          other_at = end_edge s.1 y;
          apart = λ q. s.4 (edges_ends q s.0 s.1 x.user refl refl x.edge (use_edge c ok n x.user x.listed) x.is_at y.is_at);
        }

    not_one : SeveralGroups c n p → one_group (2 * m) L ends ≡ true → ⊥
    not_one s h =
        let x = in_ends s.one s.one_at in
        let y = in_ends s.other s.other_at in
        let q = ends_edges (one_group_linked (2 * m) L inside ends end_below h x.0 y.0 x.1 y.1) (of_ends x.0 x.1).is_at in
        s.apart (rw (x.2, y.2) at q)

  point_below : (p e : ℕ) → EdgeAt c n p e → p < length c.points
  point_below p e h =
      let b = ends_named c ok h.by (use_edge c ok n h.by h.listed) in
      ⊎_elim (λ (o : front_in c h.by ≡ p). rw o at b.0) (λ (o : back_in c h.by ≡ p). rw o at b.1) h.at

  pub singular_is : SingularMean c n
  unfolding singular_of shell_wires
  singular_is =
      let q : ℕ → Bool = is_singular (front_in c) (back_in c) m (shell_wires c n) in record {
        points = λ p. (
          λ o. several p (not-true (one_group (2 * m) L (ends p)) (of_only q (numbers (length c.points)) p o).1),
          λ s. in_only q (numbers (length c.points)) p (in_numbers (length c.points) p (point_below p s.one s.one_at))
              (⊎_elim
              (λ (t : one_group (2 * m) L (ends p) ≡ true). absurd (not_one p s t))
              (λ (t : one_group (2 * m) L (ends p) ≡ false). rw t)
              (cases (one_group (2 * m) L (ends p)))),
        );
        named = λ p o. of_numbers (length c.points) p (of_only q (numbers (length c.points)) p o).0;
        ascend = ascends_only (λ (p : ℕ). p) q (numbers (length c.points)) (ascends_numbers (length c.points));
      }
