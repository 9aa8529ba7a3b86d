-- The sides of a face: edges are only added; the use of a side from p to q runs from p to q; the uses of an outline are a closed run.
use Prim.Native.Nat.{◌%◌, ◌+◌, ◌<◌, ◌≤◌, suc, ℕ}
use mathlib.Core.Bool.{Bool, ◌&&◌, ◌||◌, false, true}
use mathlib.Core.List.{List, [], ◌++◌, ◌∷◌, append_assoc, append-nil, map}
use mathlib.Core.Logic.{◌⊎◌, inl, inr, ⊎_elim}
use mathlib.Core.Path.{◌∙◌, ◌≡◌, ap, refl, sym}
use native.Mathlib.Omega.{arith}
use lib.Dec.{eqb, ltb}
use lib.ListN.{get_or-append, get_or-eq_default, get_or-map, get_or, length, length-append}
use lib.Seq.{get_or-append_seam}
use borrow.Author.Tests.{eq-eqb, eqb-false, eqb-true, le-leb, lt-leb, ltb-false, ltb-true}
use Rattle.edge.proofs.Laws.{no_edge}
use Rattle.edge.specs.Edges.{back_number, front_number}
use Rattle.edge.specs.Uses.{back_of, front_of}
use Rattle.edge.specs.declared.Edge.{Edge}
use Rattle.lists.proofs.Count.{All, all_append}
use Rattle.lists.proofs.Flat.{get_d_any}
use Rattle.lists.proofs.Laws.{cases, left_true, right_true}
use Rattle.lists.specs.Lists.{pick}
use Rattle.mesh.specs.Mesh.{Sides, between, joins, outline, place, side, side_use, sides, with_side}
use Rattle.shell.proofs.Level.{IsUse}
use Rattle.shell.proofs.Shown.{closed_runs, runs_append}
use Rattle.wire.specs.Wires.{closed, runs}

-- ---- the place of the first that passes

module _ {ℓ} {A : Type ℓ} (test : A → Bool) where
  place_low : (xs : List A) → place test xs ≤ length xs
  unfolding place
  place_low [] = omega arith
  place_low (x ∷ xs) =
      ⊎_elim (λ (e : test x ≡ true). rw e (omega arith)) (λ (e : test x ≡ false). rw e (omega (arith, place_low xs))) (cases (test x))

  place_passes : (d : A) (xs : List A) → place test xs < length xs → test (get_or xs (place test xs) d) ≡ true
  unfolding place
  place_passes d [] h = absurd (omega arith)
  place_passes d (x ∷ xs) h =
      ⊎_elim
      (λ (e : test x ≡ true). rw e e)
      (λ (e : test x ≡ false). let l : suc (place test xs) < suc (length xs) = rw e at h in rw e (place_passes d xs (omega arith)))
      (cases (test x))

-- ---- edges are only added

abbrev pub Grows : List Edge → List Edge → Type 0
Grows es fs = (rest : List Edge) × (fs ≡ es ++ rest)

pub grows_not : (es : List Edge) → Grows es es
grows_not es = ([], sym (append-nil es))

pub grows_on : (es fs gs : List Edge) → Grows es fs → Grows fs gs → Grows es gs
grows_on es fs gs a b = (a.0 ++ b.0, rw (b.1, a.1) (append_assoc es a.0 b.0))

side_grows : (es : List Edge) (p q : ℕ) → Grows es (with_side es p q)
unfolding with_side
side_grows es p q = go (ltb (place (joins p q) es) (length es))
  where
    go : (b : Bool) → Grows es (pick b es (es ++ (between p q ∷ [])))
    go true = grows_not es
    go false = (between p q ∷ [], refl)

sides_grow : (d : Sides) (p : ℕ) (qs : List ℕ) → Grows d.edges (sides d p qs).edges
unfolding sides
sides_grow d p [] = grows_not d.edges
sides_grow d p (q ∷ qs) = grows_on d.edges (side d p q).edges _ (side_grows d.edges p q) (sides_grow (side d p q) q qs)

pub outline_grows : (es : List Edge) (ps : List ℕ) → Grows es (outline es ps).edges
outline_grows es [] = grows_not es
outline_grows es (p ∷ ps) = sides_grow (record { edges = es; uses = [] }) p (ps ++ (p ∷ []))

-- ---- the edges name points, and have the span 0 to 1

pub record Sided (n : ℕ) (e : Edge) : Type 0 where
  pub front : front_number e < n
  pub back : back_number e < n
  pub curve : e.curve ≡ (between 0 0).curve

module _ (n : ℕ) where
  side_sided : (es : List Edge) (p q : ℕ) → All (Sided n) es → p < n → q < n → All (Sided n) (with_side es p q)
  unfolding with_side
  side_sided es p q h a b = go (ltb (place (joins p q) es) (length es))
    where
      go : (b : Bool) → All (Sided n) (pick b es (es ++ (between p q ∷ [])))
      go true = h
      go false = all_append (Sided n) es (between p q ∷ []) h (record { front = a; back = b; curve = refl }, tt)

  sides_sided : (d : Sides) (p : ℕ) (qs : List ℕ) → All (Sided n) d.edges → p < n → All (λ (q : ℕ). q < n) qs → All (Sided n) (sides d p qs).edges
  unfolding sides
  sides_sided d p [] h a b = h
  sides_sided d p (q ∷ qs) h a b = sides_sided (side d p q) q qs (side_sided d.edges p q h a b.0) b.0 b.1

  pub outline_sided : (es : List Edge) (ps : List ℕ) → All (Sided n) es → All (λ (p : ℕ). p < n) ps → All (Sided n) (outline es ps).edges
  outline_sided es [] h a = h
  outline_sided es (p ∷ ps) h a =
      sides_sided (record { edges = es; uses = [] }) p (ps ++ (p ∷ [])) h a.0 (all_append (λ (q : ℕ). q < n) ps (p ∷ []) a.1 (a.0, tt))

-- ---- as many uses as sides

length_sides : (d : Sides) (p : ℕ) (qs : List ℕ) → length (sides d p qs).uses ≡ length d.uses + length qs
unfolding sides
length_sides d p [] = omega arith
length_sides d p (q ∷ qs) = omega (arith, length_sides (side d p q) q qs, length-append d.uses (side_use d.edges p q ∷ []))

pub outline_long : (es : List Edge) (ps : List ℕ) → length (outline es ps).uses ≡ length ps
outline_long es [] = refl
outline_long es (p ∷ ps) = omega (arith, length_sides (record { edges = es; uses = [] }) p (ps ++ (p ∷ [])), length-append ps (p ∷ []))

-- ---- the edge of a side

module _ (es : List Edge) (p q : ℕ) where
  abbrev at : ℕ
  at = place (joins p q) es

  abbrev it : Edge
  it = get_or es at (between p q)

  -- among the edges after it
  record SideEdge (fs : List Edge) : Type 0 where
    inside : at < length fs
    same : get_or fs at no_edge ≡ it
    joined : joins p q it ≡ true

  side_edge : SideEdge (with_side es p q)
  unfolding with_side
  side_edge =
      ⊎_elim
      (λ (e : ltb at (length es) ≡ true).
      let l = ltb-true at (length es) e in
      rw e (record { inside = l; same = get_d_any es at no_edge (between p q) l; joined = place_passes (joins p q) (between p q) es l }))
      (λ (e : ltb at (length es) ≡ false).
      let z : at ≡ length es = omega (arith, ltb-false at (length es) e, place_low (joins p q) es) in
      let new : it ≡ between p q = get_or-eq_default es (between p q) (omega arith) in
      rw e (record {
        inside = omega (arith, length-append es (between p q ∷ []));
        same = rw (z, get_or-eq_default es (between p q) {n = length es} (omega arith)) (get_or-append_seam es (between p q) [] no_edge);
        joined = rw (new, eq-eqb p p refl, eq-eqb q q refl);
      }))
      (cases (ltb at (length es)))

joined_ends_lem : (f b p q : ℕ) → ((eqb f p && eqb b q) || (eqb f q && eqb b p)) ≡ true → ((f ≡ p) × (b ≡ q)) ⊎ ((f ≡ q) × (b ≡ p))
joined_ends_lem f b p q h =
    ⊎_elim
    (λ (e : (eqb f p && eqb b q) ≡ true). inl (eqb-true f p (left_true (eqb f p) (eqb b q) e), eqb-true b q (right_true (eqb f p) (eqb b q) e)))
    (λ (e : (eqb f p && eqb b q) ≡ false).
    let o : (eqb f q && eqb b p) ≡ true = rw e at h in
    inr (eqb-true f q (left_true (eqb f q) (eqb b p) o), eqb-true b p (right_true (eqb f q) (eqb b p) o)))
    (cases (eqb f p && eqb b q))

-- ---- the use of a side

front_plain : (fronts backs : List ℕ) (k : ℕ) → k < 32768 → front_of fronts backs k ≡ get_or fronts k 0
unfolding front_of
front_plain fronts backs k h = let e : k % 32768 ≡ k = omega arith in rw (lt-leb 32768 k h, e)

front_turned : (fronts backs : List ℕ) (k : ℕ) → k < 32768 → front_of fronts backs (k + 32768) ≡ get_or backs k 0
unfolding front_of
front_turned fronts backs k h = let e : (k + 32768) % 32768 ≡ k = omega arith in rw (le-leb 32768 (k + 32768) (omega arith), e)

-- among edges `all`
module _ (all : List Edge) where
  abbrev pub fronts : List ℕ
  fronts = map front_number all

  abbrev pub backs : List ℕ
  backs = map back_number all

  -- a use runs from p to q
  record UseRuns (p u q : ℕ) : Type 0 where
    front : front_of fronts backs u ≡ p
    back : back_of fronts backs u ≡ q
    named : IsUse (length all) u

  -- uses run from one point to another
  record Run (a : ℕ) (us : List ℕ) (z : ℕ) : Type 0 where
    run : runs fronts backs a us z ≡ true
    named : All (IsUse (length all)) us

  -- a wire that the checks can refuse only for the points that it meets
  pub record Closed (us : List ℕ) : Type 0 where
    pub used : 0 < length us
    pub loops : closed fronts backs us ≡ true
    pub named : All (IsUse (length all)) us

-- where `all` begin with the edges after the side
module _ (all : List Edge) (few : length all ≤ 32768) where
  module _ (es : List Edge) (p q : ℕ) (part : Grows (with_side es p q) all) where
    inside : at es p q < length all
    inside = omega (arith, (side_edge es p q).inside, ap length part.1, length-append (with_side es p q) part.0)

    same : get_or all (at es p q) no_edge ≡ it es p q
    same =
        ap (λ (l : List Edge). get_or l (at es p q) no_edge) part.1
        ∙ get_or-append (with_side es p q) part.0 no_edge (at es p q) (side_edge es p q).inside ∙ (side_edge es p q).same

    its_front : get_or (fronts all) (at es p q) 0 ≡ front_number (it es p q)
    its_front = get_or-map front_number all (at es p q) no_edge ∙ ap front_number same

    its_back : get_or (backs all) (at es p q) 0 ≡ back_number (it es p q)
    its_back = get_or-map back_number all (at es p q) no_edge ∙ ap back_number same

    side_runs : UseRuns all p (side_use es p q) q
    unfolding side_use
    side_runs =
        let k = at es p q in
        let f = front_number (it es p q) in
        let b = back_number (it es p q) in
        let low : k < 32768 = omega (arith, inside) in
        let ends = joined_ends_lem f b p q (side_edge es p q).joined in
        ⊎_elim
        (λ (e : eqb f p ≡ true).
        let is = eqb-true f p e in
        rw e (record {
          front = front_plain (fronts all) (backs all) k low ∙ its_front ∙ is;
          back = front_plain (backs all) (fronts all) k low ∙ its_back ∙ ⊎_elim (λ t. t.1) (λ t. t.1 ∙ sym is ∙ t.0) ends;
          named = (omega arith, omega (arith, inside));
        }))
        (λ (e : eqb f p ≡ false).
        let crossed : (f ≡ q) × (b ≡ p) = ⊎_elim (λ t. absurd (eqb-false f p e t.0)) (λ t. t) ends in
        rw e (record {
          front = front_turned (fronts all) (backs all) k low ∙ its_back ∙ crossed.1;
          back = front_turned (backs all) (fronts all) k low ∙ its_front ∙ crossed.0;
          named = (omega arith, omega (arith, inside));
        }))
        (cases (eqb f p))

  side_run : (d : Sides) (a p q : ℕ) → Grows (with_side d.edges p q) all → Run all a d.uses p → Run all a (side d p q).uses q
  unfolding runs
  side_run d a p q part h =
      let u = side_use d.edges p q in
      let t = side_runs d.edges p q part in
      record {
        run = runs_append (fronts all) (backs all) d.uses (u ∷ []) a p q h.run (rw (eq-eqb p _ (sym t.front)) (eq-eqb _ q t.back));
        named = all_append (IsUse (length all)) d.uses (u ∷ []) h.named (t.named, tt);
      }

  sides_run : (d : Sides) (a p : ℕ) (qs : List ℕ) (z : ℕ) → Grows (sides d p (qs ++ (z ∷ []))).edges all → Run all a d.uses p
      → Run all a (sides d p (qs ++ (z ∷ []))).uses z
  unfolding sides
  sides_run d a p [] z part h = side_run d a p z part h
  sides_run d a p (q ∷ qs) z part h =
      let more = sides_grow (side d p q) q (qs ++ (z ∷ [])) in
      sides_run (side d p q) a q qs z part (side_run d a p q (grows_on (side d p q).edges _ all more part) h)

  pub outline_closed : (es : List Edge) (ps : List ℕ) → 0 < length ps → Grows (outline es ps).edges all → Closed all (outline es ps).uses
  unfolding runs
  outline_closed es [] some part = absurd (omega arith)
  outline_closed es (p ∷ ps) some part =
      let whole = sides_run (record { edges = es; uses = [] }) p p ps p part (record { run = eq-eqb p p refl; named = tt }) in
      record {
        used = omega (arith, outline_long es (p ∷ ps));
        loops = closed_runs (fronts all) (backs all) (outline es (p ∷ ps)).uses p whole.run;
        named = whole.named;
      }
