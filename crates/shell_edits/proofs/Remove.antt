-- Laws of removing a point: the place where a use ends there, the wires that change, the new edge and its uses.
use Rattle.std.specs.Prelude.{Some}
use Prim.Native.Nat.{◌%◌, ◌+◌, ◌<◌, ◌≤◌, suc, zero, ℕ}
use mathlib.Core.Bool.{Bool, false, not, true, true≢false}
use mathlib.Core.List.{List, [], ◌++◌, ◌∷◌, map}
use mathlib.Core.Logic.{⊎_elim}
use mathlib.Core.Path.{◌∙◌, ◌≡◌, refl, sym}
use native.Mathlib.Omega.{arith}
use lib.Dec.{eqb, leb}
use lib.ListN.{get_or, length, length-set, set}
use lib.Seq.{ext_get_or, get_or_at, get_or-set_other, get_or-set_same}
use borrow.Author.Tests.{eq-eqb, eqb-false, eqb-true, le-leb, leb-true, lt-leb, lt-ltb, not-true}
use Rattle.curve.specs.Curves.{join_curves, joined_span}
use Rattle.edge.specs.Edges.{is_span}
use Rattle.edge.specs.Uses.{back_of, edge_number, front_of}
use Rattle.errors.proofs.Laws.{none_left, none_right, unless_passes}
use Rattle.lists.proofs.Laws.{cases, eqb_sym}
use Rattle.lists.specs.Lists.{has, pick, unless}
use Rattle.edge.specs.declared.Curve.{Curve}
use Rattle.edit_answers.specs.declared.EditError.TheVariants.{NoSpace, SameEnds, SpanRefused}
use Rattle.errors.specs.Faults.{each}
use Rattle.pattern.proofs.Named.{point_named}
use Rattle.pattern.specs.Checks.{edge_faults, record_faults}
use Rattle.pattern.specs.Contents.{Content}
use Rattle.shell.specs.Openings.{back_in, front_in}
use Rattle.shell_edits.specs.Edits.{each_wire, edge_of, join_faults, joined_edge, room_for_edges}
use Rattle.shell_edits.specs.NewEdges.{is_joined, use_back, use_front}
use Rattle.shell_edits.proofs.Ends.{back_is, front_is}
use Rattle.shell_edits.proofs.Wires.{each_long}
use Rattle.wire.specs.Wires.{end_from}

module _ (fs bs : List ℕ) where
  -- where a use ends at p, the place of the first such use
  pub record Place (p i : ℕ) (us : List ℕ) : Type 0 where
    pub at : ℕ
    pub found : end_from fs bs i p us ≡ (Some (i + at))
    pub inside : at < length us
    pub ends : back_of fs bs (get_or us at 0) ≡ p

  pub place : (p i : ℕ) (us : List ℕ) → has p (map (back_of fs bs) us) ≡ true → Place p i us
  unfolding has end_from
  place p i [] h = absurd (true≢false (sym h))
  place p i (u ∷ us) h =
      ⊎_elim
      (λ (e : eqb p (back_of fs bs u) ≡ true).
      let z = sym (eqb-true p (back_of fs bs u) e) in
      let y : i + 0 ≡ i = omega arith in
      record { at = 0; found = rw (eq-eqb (back_of fs bs u) p z, y); inside = omega arith; ends = z })
      (λ (e : eqb p (back_of fs bs u) ≡ false).
      let r = place p (i + 1) us (rw e at h) in
      let z : i + suc r.at ≡ i + 1 + r.at = omega arith in
      let n : eqb (back_of fs bs u) p ≡ false = eqb_sym (back_of fs bs u) p ∙ e in
      record { at = suc r.at; found = rw (n, z) r.found; inside = omega (arith, r.inside); ends = r.ends })
      (cases (eqb p (back_of fs bs u)))

  -- two uses of one edge, of which the first ends where the second begins, run opposite ways
  pub opposite : (a b : ℕ) → edge_number a ≡ edge_number b → eqb (front_of fs bs a) (back_of fs bs a) ≡ false → back_of fs bs a ≡ front_of fs bs b
      → front_of fs bs a ≡ back_of fs bs b
  unfolding front_of
  opposite a b e n h = rw e (ways (leb 32768 a) (leb 32768 b) (get_or fs (edge_number b) 0) (get_or bs (edge_number b) 0) (rw e at n) (rw e at h))
    where
      ways : (r s : Bool) (x y : ℕ) → eqb (pick r y x) (pick r x y) ≡ false → pick r x y ≡ pick s y x → pick r y x ≡ pick s x y
      ways true true x y m z = absurd (eqb-false y x m (sym z))
      ways true false x y m z = refl
      ways false true x y m z = refl
      ways false false x y m z = absurd (eqb-false x y m (sym z))

-- ---- the wires that change

pub get_d_each_wire : (change : ℕ → List ℕ → List ℕ) (w : ℕ) (wires : List (List ℕ)) (k : ℕ) → k < length wires
    → get_or (each_wire change w wires) k [] ≡ change (w + k) (get_or wires k [])
unfolding each_wire
get_d_each_wire change w [] k h = absurd (omega arith)
get_d_each_wire change w (us ∷ wires) zero h = let z : w + 0 ≡ w = omega arith in rw z
get_d_each_wire change w (us ∷ wires) (suc k) h = let z : w + suc k ≡ suc w + k = omega arith in rw z (get_d_each_wire change (suc w) wires k (omega arith))

-- wires b and a changed, each by its own function
pub two_changed : (a b : ℕ) (f g : List ℕ → List ℕ) (wires : List (List ℕ))
    → each_wire (λ (w : ℕ) (us : List ℕ). pick (eqb w b) (f us) (pick (eqb w a) (g us) us)) 0 wires ≡ set (set wires a (g (get_or wires a []))) b (f (get_or wires b []))
two_changed a b f g wires =
    let change : ℕ → List ℕ → List ℕ = λ (w : ℕ) (us : List ℕ). pick (eqb w b) (f us) (pick (eqb w a) (g us) us) in
    let x = g (get_or wires a []) in
    let y = f (get_or wires b []) in
    let long = each_long change 0 wires in
    ext_get_or [] (each_wire change 0 wires) (set (set wires a x) b y) (omega (arith, long, length-set (set wires a x) b y, length-set wires a x))
    (λ k h.
    let l : k < length wires = omega arith in
    let z : 0 + k ≡ k = omega arith in
    get_d_each_wire change 0 wires k l
    ∙ rw z
    (⊎_elim
    (λ (e : eqb k b ≡ true).
    let m = eqb-true k b e in
    rw (e, m) (sym (get_or-set_same (set wires a x) b y [] (omega (arith, length-set wires a x)))))
    (λ (e : eqb k b ≡ false).
    rw (e, get_or-set_other (set wires a x) b k y [] (eqb-false k b e))
    (⊎_elim
    (λ (i : eqb k a ≡ true). let m = eqb-true k a i in rw (i, m) (sym (get_or-set_same wires a x [] (omega arith))))
    (λ (i : eqb k a ≡ false). rw (i, get_or-set_other wires a k x [] (eqb-false k a i)))
    (cases (eqb k a))))
    (cases (eqb k b))))

-- ---- the new edge

-- its uses, in tables that are longer by its ends
module _ (fs bs : List ℕ) (f b n : ℕ) (fronts : length fs ≡ n) (backs : length bs ≡ n) (low : n < 32768) where
  pub new_front : front_of (fs ++ (f ∷ [])) (bs ++ (b ∷ [])) n ≡ f
  unfolding front_of
  new_front = let e : edge_number n ≡ n = omega arith in rw (lt-leb 32768 n low, e) (get_or_at fs f [] 0 n fronts)

  pub new_back : back_of (fs ++ (f ∷ [])) (bs ++ (b ∷ [])) n ≡ b
  unfolding front_of
  new_back = let e : edge_number n ≡ n = omega arith in rw (lt-leb 32768 n low, e) (get_or_at bs b [] 0 n backs)

-- what the checks of joining two uses say (25, 26, 17)
pub record Joins (c : Content) (u v : ℕ) : Type 0 where
  pub differ : eqb (front_in c u) (back_in c v) ≡ false
  pub span : is_span (joined_span (edge_of c u).curve (edge_of c v).curve) ≡ true
  pub room : length c.edges + 1 ≤ 1024

whole_span : (a b : Curve) → is_joined (join_curves a b) ≡ true → is_span (joined_span a b) ≡ true
whole_span a b h =
    ⊎_elim (λ (e : is_span (joined_span a b) ≡ true). e) (λ (e : is_span (joined_span a b) ≡ false). absurd (true≢false (sym (rw e at h)))) (cases (is_span (joined_span a b)))

pub join_allowed : (c : Content) (u v : ℕ) → join_faults c u v ≡ [] → Joins c u v
join_allowed c u v h =
    let e = eqb (use_front (edge_of c u) u).0 (use_back (edge_of c v) v).0 in
    let a = unless (not e) SameEnds in
    let b = unless (is_joined (join_curves (edge_of c u).curve (edge_of c v).curve)) SpanRefused in
    let d = unless (room_for_edges (length c.edges + 1)) NoSpace in
    let two : a ++ b ≡ [] = none_left (a ++ b) d h in
    record {
      differ = rw (front_is c u, back_is c v) (not-true e (unless_passes (not e) SameEnds (none_left a b two)));
      span = whole_span (edge_of c u).curve (edge_of c v).curve
          (unless_passes (is_joined (join_curves (edge_of c u).curve (edge_of c v).curve)) SpanRefused (none_right a b two));
      room = leb-true (length c.edges + 1) 1024 (unless_passes (room_for_edges (length c.edges + 1)) NoSpace (none_right (a ++ b) d h));
    }

-- a use of an edge ends at a point that is named, as it begins at one
pub end_named : (c : Content) → record_faults c ≡ [] → (u : ℕ) → edge_number u < length c.edges → back_in c u < length c.points
unfolding front_of
end_named c ok u h =
    let m = edge_number u in
    ⊎_elim
    (λ (r : leb 32768 u ≡ true).
    let z : m % 32768 ≡ m = omega arith in
    rw r (rw (lt-leb 32768 m (omega arith), z) at (point_named c ok m (rw z h))))
    (λ (r : leb 32768 u ≡ false).
    let z : (m + 32768) % 32768 ≡ m = omega arith in
    rw r (rw (le-leb 32768 (m + 32768) (omega arith), z) at (point_named c ok (m + 32768) (rw z h))))
    (cases (leb 32768 u))

-- the new edge has no fault
pub join_fine : (c : Content) → record_faults c ≡ [] → (u v : ℕ) → edge_number u < length c.edges → edge_number v < length c.edges → Joins c u v
    → each (edge_faults (length c.points)) (length c.edges) (joined_edge c u v ∷ []) ≡ []
unfolding each
join_fine c ok u v hu hv j =
    rw (← front_is c u, ← back_is c v, lt-ltb (front_in c u) (length c.points) (point_named c ok u hu), lt-ltb (back_in c v) (length c.points) (end_named c ok v hv), j.differ, j.span)
