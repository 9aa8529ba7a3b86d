-- What the shells of an accepted pattern show: wires that have uses, name edges and are closed, turned or not.
use Prim.Native.Nat.{◌+◌, ◌<◌, suc, ℕ}
use mathlib.Core.Bool.{Bool, false, true}
use mathlib.Core.List.{List, [], ◌++◌, ◌∷◌, map, map-append, reverse, reverse-cons}
use mathlib.Core.Logic.{⊎_elim}
use mathlib.Core.Path.{◌∙◌, ◌≡◌, ap, refl, sym}
use native.Mathlib.Omega.{arith}
use lib.Dec.{eqb, leb}
use lib.ListN.{drop, get_or, length, length-append, length-map, length-reverse}
use borrow.Author.Tests.{eq-eqb, eqb-true, leb-true}
use Rattle.edge.specs.Edges.{back_number, front_number}
use Rattle.edge.specs.Uses.{back_of, edge_number, front_of, turned}
use Rattle.errors.proofs.Laws.{none_left, none_right}
use Rattle.errors.specs.Faults.{each}
use Rattle.face.proofs.Laws.{none_mapped}
use Rattle.face.specs.Faces.{face_faults, face_rule, outline_faults, shared_faults, wire_count}
use Rattle.groups.proofs.All.{column_at}
use Rattle.lists.proofs.Count.{All, all_at, all_each, all_flat_map, all_map, all_reverse, all_split, all_weaker}
use Rattle.lists.proofs.Laws.{cases, left_true, right_true}
use Rattle.lists.proofs.Marks.{AllBelow}
use Rattle.lists.specs.Lists.{pick, rotated, split}
use Rattle.pattern.proofs.Named.{use_named}
use Rattle.pattern.proofs.Passed.{content_passed}
use Rattle.pattern.specs.Checks.{content_faults, outlines}
use Rattle.pattern.specs.Contents.{Content}
use Rattle.shell.proofs.Turned.{turned_front, turned_low}
use Rattle.shell.specs.Shells.{face_number, listings_of, shell_wires, shown_wire, shown_wires}
use Rattle.wire.proofs.Laws.{Sound, faultless_sound}
use Rattle.wire.specs.Wires.{closed, points, runs, wire_faults}

pub map_rotated : (f : ℕ → ℕ) (xs : List ℕ) → map f (rotated xs) ≡ rotated (map f xs)
map_rotated f [] = refl
map_rotated f (x ∷ xs) = map-append f xs (x ∷ [])

pub length_rotated : (xs : List ℕ) → length (rotated xs) ≡ length xs
length_rotated [] = refl
length_rotated (x ∷ xs) = omega (arith, length-append xs (x ∷ []))

-- ---- closed wires
module _ (fs bs : List ℕ) where
  abbrev front : ℕ → ℕ
  front = front_of fs bs

  abbrev back : ℕ → ℕ
  back = back_of fs bs

  -- a run: the points where it goes on are those where it came
  runs_ends : (a : ℕ) (us : List ℕ) (z : ℕ) → runs fs bs a us z ≡ true → a ∷ map back us ≡ map front us ++ (z ∷ [])
  unfolding runs
  runs_ends a [] z h = rw (eqb-true a z h)
  runs_ends a (u ∷ us) z h =
      let e : a ≡ front u = eqb-true a (front u) (left_true (eqb a (front u)) (runs fs bs (back u) us z) h) in
      rw (e, runs_ends (back u) us z (right_true (eqb a (front u)) (runs fs bs (back u) us z) h))

  ends_runs : (a : ℕ) (us : List ℕ) (z : ℕ) → a ∷ map back us ≡ map front us ++ (z ∷ []) → runs fs bs a us z ≡ true
  unfolding runs
  ends_runs a [] z h = eq-eqb a z (ap (λ (xs : List ℕ). get_or xs 0 0) h)
  ends_runs a (u ∷ us) z h =
      rw (eq-eqb a (front u) (ap (λ (xs : List ℕ). get_or xs 0 0) h)) (ends_runs (back u) us z (ap (drop 1) h))

  -- closed: the points where the uses end are those where they begin, rotated
  pub closed_ends : (us : List ℕ) → closed fs bs us ≡ true → map back us ≡ rotated (points fs bs us)
  unfolding closed
  closed_ends [] h = refl
  closed_ends (u ∷ us) h = runs_ends (back u) us (front u) h

  pub ends_closed : (us : List ℕ) → map back us ≡ rotated (points fs bs us) → closed fs bs us ≡ true
  unfolding closed
  ends_closed [] h = refl
  ends_closed (u ∷ us) h = ends_runs (back u) us (front u) h

  -- on a closed wire the next use begins where the use ends
  pub next_begins : (us : List ℕ) (k : ℕ) → closed fs bs us ≡ true → k < length us → front (get_or (rotated us) k 0) ≡ back (get_or us k 0)
  next_begins us k c h =
      let all : map back us ≡ map front (rotated us) = closed_ends us c ∙ sym (map_rotated front us) in
      sym (column_at front (rotated us) k (omega (arith, length_rotated us)))
      ∙ ap (λ (ps : List ℕ). get_or ps k 0) (sym all) ∙ column_at back us k h

  -- ---- a closed wire turned is closed
  pub runs_append : (us vs : List ℕ) (p q r : ℕ) → runs fs bs p us q ≡ true → runs fs bs q vs r ≡ true → runs fs bs p (us ++ vs) r ≡ true
  unfolding runs
  runs_append [] vs p q r h k = rw (eqb-true p q h) k
  runs_append (u ∷ us) vs p q r h k =
      let here : eqb p (front u) ≡ true = left_true (eqb p (front u)) (runs fs bs (back u) us q) h in
      rw here (runs_append us vs (back u) q r (right_true (eqb p (front u)) (runs fs bs (back u) us q) h) k)

  -- a use turned runs from its back to its front
  runs_use : (u p : ℕ) → u < 65536 → eqb p (front u) ≡ true → runs fs bs (back u) (turned u ∷ []) p ≡ true
  unfolding runs
  runs_use u p l h =
      let a : eqb (back u) (front (turned u)) ≡ true = eq-eqb (back u) (front (turned u)) (sym (turned_front fs bs u l)) in
      let b : eqb (back (turned u)) p ≡ true = eq-eqb (back (turned u)) p (turned_front bs fs u l ∙ sym (eqb-true p (front u) h)) in
      rw (a, b)

  pub runs_turned : (us : List ℕ) → All (λ (u : ℕ). u < 65536) us → (p q : ℕ) → runs fs bs p us q ≡ true → runs fs bs q (map turned (reverse us)) p ≡ true
  unfolding runs
  runs_turned [] l p q h = eq-eqb q p (sym (eqb-true p q h))
  runs_turned (u ∷ us) l p q h =
      let here = left_true (eqb p (front u)) (runs fs bs (back u) us q) h in
      let more = right_true (eqb p (front u)) (runs fs bs (back u) us q) h in
      rw (reverse-cons u us, map-append turned (reverse us) (u ∷ []))
      (runs_append (map turned (reverse us)) (turned u ∷ []) q (back u) p (runs_turned us l.1 (back u) q more) (runs_use u p l.0 here))

  pub closed_runs : (us : List ℕ) (p : ℕ) → runs fs bs p us p ≡ true → closed fs bs us ≡ true
  unfolding runs closed
  closed_runs [] p h = refl
  closed_runs (u ∷ us) p h =
      let here = eqb-true p (front u) (left_true (eqb p (front u)) (runs fs bs (back u) us p) h) in
      rw here at (right_true (eqb p (front u)) (runs fs bs (back u) us p) h)

  pub closed_turned : (us : List ℕ) → All (λ (u : ℕ). u < 65536) us → closed fs bs us ≡ true → closed fs bs (map turned (reverse us)) ≡ true
  unfolding runs closed
  closed_turned [] l h = refl
  closed_turned (u ∷ us) l h =
      let p = front u in
      let all : runs fs bs p (u ∷ us) p ≡ true = rw (eq-eqb p p refl) h in
      closed_runs (map turned (reverse (u ∷ us))) p (runs_turned (u ∷ us) l p p all)

  -- ---- faces without fault
  wires_sound : (w : ℕ) (wires : List (List ℕ)) → each (outline_faults fs bs) w wires ≡ [] → All (Sound fs bs) wires
  unfolding each
  wires_sound w [] e = tt
  wires_sound w (us ∷ wires) e =
      let none = none_mapped w (wire_faults fs bs us) (none_left (outline_faults fs bs w us) (each (outline_faults fs bs) (suc w) wires) e) in
      (faultless_sound fs bs us none, wires_sound (suc w) wires (none_right (outline_faults fs bs w us) (each (outline_faults fs bs) (suc w) wires) e))

  pub faces_sound : (w : ℕ) (faces : List (List (List ℕ))) → face_rule fs bs w faces ≡ [] → All (All (Sound fs bs)) faces
  unfolding face_rule
  faces_sound w [] e = tt
  faces_sound w (wires ∷ faces) e =
      let here = none_left (face_faults fs bs w wires) (face_rule fs bs (w + length wires) faces) e in (
        wires_sound w wires (none_left (each (outline_faults fs bs) w wires) (shared_faults fs bs [] w wires) here),
        faces_sound (w + length wires) faces (none_right (face_faults fs bs w wires) (face_rule fs bs (w + length wires) faces) e),
      )

-- a use turned names the same edge
turned_named : (m u : ℕ) → edge_number u < m → edge_number (turned u) < m
turned_named m u h =
    ⊎_elim
    (λ (r : leb 32768 u ≡ true). rw r (omega (arith, leb-true 32768 u r)))
    (λ (r : leb 32768 u ≡ false). rw r (omega arith))
    (cases (leb 32768 u))

-- what holds of every wire as stored and turned holds of every wire of a shell
shown_all : (P : List ℕ → Type 0) → ((us : List ℕ) → P us → P (map turned (reverse us))) → (faces : List (List (List ℕ))) → All (All P) faces
    → (l : ℕ) → All P (shown_wires faces l)
shown_all P turn faces h l =
    all_map P P (shown_wire l) (λ us p. go (leb 32768 l) us p) (get_or faces (face_number l) []) (all_at (All P) [] tt faces h (face_number l))
  where
    go : (b : Bool) (us : List ℕ) → P us → P (pick b (map turned (reverse us)) us)
    go true us p = turn us p
    go false us p = p

-- a wire has a use, and its uses name one of m edges
abbrev pub Uses : ℕ → List ℕ → Type 0
Uses m us = (0 < length us) × All (λ (u : ℕ). edge_number u < m) us

module _ (c : Content) (ok : content_faults c ≡ []) where
  abbrev fronts : List ℕ
  fronts = map front_number c.edges

  abbrev backs : List ℕ
  backs = map back_number c.edges

  -- the wires of the faces
  stored : (P : ℕ → Type 0) → ((k : ℕ) → k < length c.uses → P (get_or c.uses k 0)) → All (All (All P)) (outlines c)
  stored P h = all_split (All P) (map wire_count c.faces) (split c.wires c.uses) (all_split P c.wires c.uses (all_each P 0 c.uses h))

  sound : All (All (Sound fronts backs)) (outlines c)
  sound = faces_sound fronts backs 0 (outlines c) (content_passed c ok).rule

  -- what two claims give, of every wire of every face
  both : (P Q R : List ℕ → Type 0) → ((us : List ℕ) → P us → Q us → R us) → (faces : List (List (List ℕ))) → All (All P) faces → All (All Q) faces → All (All R) faces
  both P Q R f [] p q = tt
  both P Q R f (wires ∷ faces) p q = (wire wires p.0 q.0, both P Q R f faces p.1 q.1)
    where
      wire : (ws : List (List ℕ)) → All P ws → All Q ws → All R ws
      wire [] p q = tt
      wire (us ∷ ws) p q = (f us p.0 q.0, wire ws p.1 q.1)

  -- every wire of a shell has a use, and its uses name edges
  pub wires_used : (n : ℕ) → All (Uses (length c.edges)) (shell_wires c n)
  unfolding shell_wires
  wires_used n =
      let m = length c.edges in
      let Named : ℕ → Type 0 = λ (u : ℕ). edge_number u < m in
      let all = both (Sound fronts backs) (All Named) (Uses m) (λ us s h. (s.used, h)) (outlines c) sound (stored Named (use_named c (content_passed c ok).records)) in
      all_flat_map (Uses m) (shown_wires (outlines c))
      (shown_all (Uses m)
      (λ us h. (omega (arith, h.0, length-map (reverse us) turned, length-reverse us), all_map Named Named turned (turned_named m) (reverse us) (all_reverse Named us h.1)))
      (outlines c) all)
      (listings_of c n)

  -- and is closed
  pub wires_closed : AllBelow 65536 c.uses → (n : ℕ) → All (λ (us : List ℕ). closed fronts backs us ≡ true) (shell_wires c n)
  unfolding shell_wires
  wires_closed small n =
      let Low : ℕ → Type 0 = λ (u : ℕ). u < 65536 in
      let Closed : List ℕ → Type 0 = λ (us : List ℕ). closed fronts backs us ≡ true in
      let Ring : List ℕ → Type 0 = λ (us : List ℕ). (closed fronts backs us ≡ true) × All (λ (u : ℕ). u < 65536) us in
      let all = both (Sound fronts backs) (All Low) Ring (λ us s h. (s.loops, h)) (outlines c) sound (stored Low small) in
      all_weaker Ring Closed (λ us h. h.0) (shell_wires c n)
      (all_flat_map Ring (shown_wires (outlines c))
      (shown_all Ring (λ us h. (closed_turned fronts backs us h.1 h.0, all_map Low Low turned turned_low (reverse us) (all_reverse Low us h.1))) (outlines c) all)
      (listings_of c n))
