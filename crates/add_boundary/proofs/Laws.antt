-- Laws of a wire added to a face: the first fault, what is written, the marks.
use Prim.Native.Nat.{◌+◌, ◌<◌, ◌≤◌, suc, ℕ}
use mathlib.Core.Bool.{Bool, ◌&&◌, false, not, true}
use mathlib.Core.List.{List, [], ◌++◌, ◌∷◌, map, reverse}
use mathlib.Core.Path.{◌∙◌, ◌≡◌, refl}
use lib.Dec.{leb}
use lib.ListN.{length}
use lib.Seq.{sets}
use borrow.Author.Tests.{le-leb, leb-true, lt-leb}
use Rattle.edge.specs.Uses.{turned}
use Rattle.edit_answers.specs.Answers.{judged}
use Rattle.edit_answers.specs.declared.FaceEditError.{FaceEditError}
use Rattle.edit_answers.specs.declared.FaceEditError.TheVariants.{NoSpace, NotDisjointWires, Wire}
use Rattle.errors.specs.declared.Refusal.{Refusal}
use Rattle.errors.specs.declared.WireError.{WireError}
use Rattle.face_edits.specs.FaceAnswers.{own_answer}
use Rattle.face_parts.proofs.Laws.{simple_short}
use Rattle.lists.proofs.Laws.{left_true, right_true}
use Rattle.lists.proofs.Marks.{holds_fresh, holds_stamped, met_seen}
use Rattle.lists.specs.Lists.{disjoint, no_dup, unless}
use Rattle.lists.specs.Marks.{Below, met, stamped}
use Rattle.wire.proofs.Laws.{faultless_no_dup, points_below}
use Rattle.wire.specs.Named.{Named}
use Rattle.wire.specs.OfWire.{of_wire}
use Rattle.wire.specs.declared.Wire.{Wire as Uses}
use Rattle.wire.specs.Wires.{points, wire_faults}
use Rattle.add_boundary.specs.Boundary.{first_of, new_faults, stored_as}
use Rattle.std.specs.Prelude.{Err, Ok}
use Rattle.errors.specs.Sequence.{first_of_wire}

-- ---- the marks

flip : (a b : Bool) → a ≡ not b → not a ≡ b
flip a true e = rw e
flip a false e = rw e

-- the uses `own` are stamped, then the wire: whether a point of the wire has the stamp
pub apart_says : (wire own : Uses) (marks marks' : List ℕ) (s : ℕ) (again : Bool) → no_dup (of_wire points wire) ≡ true → length marks ≡ 2048 → Below s marks
    → marks' ≡ stamped s (of_wire points own) marks → again ≡ met s (of_wire points wire) marks' → not again ≡ disjoint (of_wire points wire) (of_wire points own)
apart_says wire own marks marks' s again once long low is says =
    let seen = of_wire points own in
    let ps = of_wire points wire in
    flip again (disjoint ps seen)
    (says ∙ rw is
    (met_seen 2048 s ps (stamped s seen marks) seen
    (holds_stamped 2048 s seen marks [] (holds_fresh 2048 s marks long low) (points_below own.ends.fronts.now own.ends.backs.now own.uses.now own.named)) (points_below wire.ends.fronts.now wire.ends.backs.now wire.uses.now wire.named) once))

-- ---- the first fault

abbrev row : List WireError → Bool → Bool → List FaceEditError
row ws d s = map Wire ws ++ unless d NotDisjointWires ++ unless s NoSpace

row_wire : (ws : List WireError) (d s : Bool) (e : WireError) → first_of_wire ws ≡ Err e → Err (Wire e) ≡ first_of (row ws d s)
row_wire [] d s e h = cc
row_wire (w ∷ ws) d s e h = let same : w ≡ e = cc in rw same

row_shared : (ws : List WireError) (d s : Bool) → first_of_wire ws ≡ Ok tt → d ≡ false → Err NotDisjointWires ≡ first_of (row ws d s)
row_shared [] d s h e = rw e
row_shared (w ∷ ws) d s h e = cc

row_space : (ws : List WireError) (d s : Bool) → first_of_wire ws ≡ Ok tt → d ≡ true → s ≡ false → Err NoSpace ≡ first_of (row ws d s)
row_space [] d s h e i = rw (e, i)
row_space (w ∷ ws) d s h e i = cc

row_none : (ws : List WireError) (d s : Bool) → first_of_wire ws ≡ Ok tt → d ≡ true → s ≡ true → Ok tt ≡ first_of (row ws d s)
row_none [] d s h e i = rw (e, i)
row_none (w ∷ ws) d s h e i = cc

row_fine : (ws : List WireError) (d s : Bool) → first_of (row ws d s) ≡ Ok tt → (ws ≡ []) × (s ≡ true)
row_fine [] true true h = (refl, refl)
row_fine [] true false h = (refl, cc)
row_fine [] false s h = (refl, cc)
row_fine (w ∷ ws) d s h = (cc, cc)

module _ (fronts backs own : List ℕ) (n : ℕ) (us : List ℕ) (m k : ℕ) where
  abbrev faults : List WireError
  faults = wire_faults fronts backs us

  abbrev apart : Bool
  apart = disjoint (points fronts backs us) (points fronts backs own)

  abbrev room : Bool
  room = leb (length own + length us) m && leb (suc n) k

  pub unfit_wire : (e : WireError) → first_of_wire faults ≡ Err e → Err (Wire e) ≡ first_of (new_faults fronts backs own n us m k)
  unfit_wire e h = row_wire faults apart room e h

  module _ (simple : first_of_wire faults ≡ Ok tt) where
    pub unfit_shared : apart ≡ false → Err NotDisjointWires ≡ first_of (new_faults fronts backs own n us m k)
    unfit_shared d = row_shared faults apart room simple d

    module _ (off : apart ≡ true) where
      pub unfit_uses : m < length own + length us → Err NoSpace ≡ first_of (new_faults fronts backs own n us m k)
      unfit_uses h = row_space faults apart room simple off (rw (lt-leb (length own + length us) m h))

      module _ (uses : length own + length us ≤ m) where
        pub unfit_wires : k < suc n → Err NoSpace ≡ first_of (new_faults fronts backs own n us m k)
        unfit_wires h = row_space faults apart room simple off (rw (le-leb (length own + length us) m uses, lt-leb (suc n) k h))

        pub is_fine : suc n ≤ k → Ok tt ≡ first_of (new_faults fronts backs own n us m k)
        is_fine h = row_none faults apart room simple off (rw (le-leb (length own + length us) m uses, le-leb (suc n) k h))

  -- what a wire without fault has
  module _ (fine : first_of (new_faults fronts backs own n us m k) ≡ Ok tt) where
    pub uses_fit : length own + length us ≤ m
    uses_fit = leb-true (length own + length us) m (left_true (leb (length own + length us) m) (leb (suc n) k) (row_fine faults apart room fine).1)

    pub wires_fit : suc n ≤ k
    wires_fit = leb-true (suc n) k (right_true (leb (length own + length us) m) (leb (suc n) k) (row_fine faults apart room fine).1)

    pub is_short : Named fronts backs us → length us ≤ 2048
    is_short named = simple_short fronts backs us named (faultless_no_dup fronts backs us (row_fine faults apart room fine).0)

-- ---- what is answered and written

pub unfit_answer : {T : Type 0} (es : List FaceEditError) (e : FaceEditError) (x : T) → first_of es ≡ Err e → Err e ≡ own_answer es x
unfit_answer [] e x h = cc
unfit_answer (g ∷ es) e x h = let same : g ≡ e = cc in rw same

pub unfit_out : {A : Type 0} (es : List FaceEditError) (e : FaceEditError) (xs : List A) → first_of es ≡ Err e → judged [] es (λ (f : Refusal). []) (λ (g : FaceEditError). []) xs ≡ []
unfit_out [] e xs h = cc
unfit_out (g ∷ es) e xs h = refl

pub fine_answer : {T : Type 0} (es : List FaceEditError) (x : T) → first_of es ≡ Ok tt → Ok x ≡ own_answer es x
fine_answer [] x h = refl
fine_answer (g ∷ es) x h = cc

pub fine_out : {A : Type 0} (es : List FaceEditError) (xs : List A) → first_of es ≡ Ok tt → judged [] es (λ (f : Refusal). []) (λ (g : FaceEditError). []) xs ≡ xs
fine_out [] xs h = refl
fine_out (g ∷ es) xs h = cc

-- a list in which nothing is written
pub sets_nothing : (l xs : List ℕ) → xs ≡ [] → l ≡ sets l 0 xs
sets_nothing l xs e = rw e

pub sets_same : (l out xs ys : List ℕ) → out ≡ sets l 0 xs → ys ≡ xs → out ≡ sets l 0 ys
sets_same l out xs ys e f = rw f e

-- a wire stored by sign
pub stored_turned : (b : Bool) (l out us : List ℕ) (at : ℕ) → b ≡ true → out ≡ sets l at (map turned (reverse us)) → out ≡ sets l at (stored_as b us)
stored_turned true l out us at h e = e
stored_turned false l out us at h e = cc

pub stored_along : (b : Bool) (l out us : List ℕ) (at : ℕ) → b ≡ false → out ≡ sets l at us → out ≡ sets l at (stored_as b us)
stored_along true l out us at h e = cc
stored_along false l out us at h e = e
