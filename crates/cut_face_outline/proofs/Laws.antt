-- An outline from a place on, the answers case by case, and the places of the wire's ends on the outline.
use Prim.Native.Nat.{◌+◌, ◌-◌, ◌<◌, ◌≤◌, suc, ℕ}
use mathlib.Core.Bool.{false, true, true≢false}
use mathlib.Core.List.{List, [], ◌∷◌, map, reverse}
use mathlib.Core.Logic.{⊎_elim}
use mathlib.Core.Path.{◌∙◌, ◌≡◌, ap, refl}
use native.Mathlib.Nat.{sub-zero}
use native.Mathlib.Omega.{arith}
use lib.Dec.{eqb}
use lib.ListN.{drop, get_or, length, length-append, length-drop, take}
use lib.Seq.{length-take-le, sets, take_all}
use borrow.Author.Tests.{lt-ltb}
use Rattle.cut_face_results.specs.Results.{cut_after, cut_two, outcome}
use Rattle.cut_face_outline.specs.Cuts.{cut_along, cut_outline}
use Rattle.edge.specs.Uses.{back, back_of, front, front_of, use_of}
use Rattle.edge.specs.declared.EdgeUse.{EdgeUse}
use Rattle.edit_answers.specs.declared.FaceEditError.TheVariants.{EndsNotOnWire}
use Rattle.face_edits.proofs.CutTheorem.{has_begun}
use Rattle.face_edits.specs.FaceEdits.{first_point, from_place, last_point}
use Rattle.listing.proofs.Loops.{get_d_reverse}
use Rattle.lists.proofs.Laws.{cases, eqb_sym}
use Rattle.lists.proofs.Sets.{sets_then}
use Rattle.lists.specs.Lists.{flat, has}
use Rattle.shell_edits.specs.Edits.{place_in}
use Rattle.std.specs.Prelude.{Err, None, Some}
use Rattle.wire.specs.Wires.{end_from}
use Rattle.cut_face_results.proofs.Results.{Owes, stored_all}

-- ---- what is stored
module _ (os out : List ℕ) (i : ℕ) (h : i ≤ length os) {out₁ out₂ : List ℕ} where
  pub rotated_stored : out₁ ≡ sets out 0 (take (length os - i) (drop i os)) → out₂ ≡ sets out₁ (length os - i) (take (i - 0) os)
      → out₂ ≡ sets out 0 (from_place i os)
  rotated_stored e f =
      let l : length (drop i os) ≡ length os - i = length-drop i os in
      sets_then out 0 (drop i os) (take i os) (length os - i) (omega (arith, l)) (e ∙ ap (sets out 0) (take_all (length os - i) (drop i os) (omega (arith, l)))) (f ∙ rw (sub-zero i))

-- ---- the answer, and what the lent lists hold then
no_ends : (uses lens : List ℕ) → Owes (outcome (EndsNotOnWire ∷ []) []) (Err EndsNotOnWire) uses uses lens lens
unfolding outcome flat
no_ends uses lens = (refl, (refl, refl))

module _ (fronts backs : List ℕ) where
  -- ---- the places of the wire's ends
  pub end_none : (i p : ℕ) (us : List ℕ) → end_from fronts backs i p us ≡ None → has p (map (back_of fronts backs) us) ≡ false
  unfolding end_from has
  end_none i p [] h = refl
  end_none i p (u ∷ us) h =
      ⊎_elim
      (λ (e : eqb (back_of fronts backs u) p ≡ true). let z : Some i ≡ None = rw e at h in cc)
      (λ (e : eqb (back_of fronts backs u) p ≡ false). rw (eqb_sym p (back_of fronts backs u), e) (end_none (i + 1) p us (rw e at h)))
      (cases (eqb (back_of fronts backs u) p))

  pub end_some : (i p : ℕ) (us : List ℕ) (j : ℕ) → end_from fronts backs i p us ≡ Some j → (has p (map (back_of fronts backs) us) ≡ true) × (j < i + length us)
  unfolding end_from has
  end_some i p [] j h = let z : None ≡ Some j = h in let y : true ≡ false = cc in absurd (true≢false y)
  end_some i p (u ∷ us) j h =
      ⊎_elim
      (λ (e : eqb (back_of fronts backs u) p ≡ true). let z : i ≡ j = ap place_in (rw e at h) in (rw (eqb_sym p (back_of fronts backs u), e), omega (arith, z)))
      (λ (e : eqb (back_of fronts backs u) p ≡ false).
      let r = end_some (i + 1) p us j (rw e at h) in (rw (eqb_sym p (back_of fronts backs u), e) r.0, omega (arith, r.1)))
      (cases (eqb (back_of fronts backs u) p))

  -- ---- an outline that begins at the wire's back
  module _ (along us uses lens : List ℕ) where
    pub along_none : end_from fronts backs 0 (first_point fronts backs us) along ≡ None
        → Owes (cut_along fronts backs along us (length uses) (length lens)) (Err EndsNotOnWire) uses uses lens lens
    unfolding cut_along
    along_none e = rw (end_none 0 (first_point fronts backs us) along e) (no_ends uses lens)

  pub along_some : (along us : List ℕ) (m n j : ℕ) → end_from fronts backs 0 (first_point fronts backs us) along ≡ Some j
      → cut_after fronts backs along (j + 1) us m n ≡ cut_along fronts backs along us m n
  unfolding cut_along
  along_some along us m n j e = let z : j + 1 ≡ suc j = omega arith in rw ((end_some 0 (first_point fronts backs us) along j e).0, e, z)

-- ---- the ends of a wire
module _ (fronts backs us : List ℕ) (some : 0 < length us) (u : EdgeUse) (r : ℕ) where
  pub first_is : u ≡ use_of (get_or us 0 0) → r ≡ front fronts backs u → r ≡ first_point fronts backs us
  unfolding front_of
  first_is e f = f ∙ rw e

  pub last_is : u ≡ use_of (get_or us (length us - 1) 0) → r ≡ back fronts backs u → r ≡ last_point fronts backs us
  unfolding front_of
  last_is e f =
      let z : get_or (reverse us) 0 0 ≡ get_or us (length us - 1) 0 = get_d_reverse us 0 some ∙ rw (sub-zero (length us - 1)) in
      f ∙ rw (e, z)

-- ---- an outline
module _ (fronts backs os us : List ℕ) where
  pub outline_empty : (uses lens : List ℕ) → length us ≡ 0 → Owes (cut_outline fronts backs os us (length uses) (length lens)) (Err EndsNotOnWire) uses uses lens lens
  unfolding cut_outline outcome flat
  outline_empty uses lens e = rw e (refl, (refl, refl))

  module _ (some : 0 < length us) where
    pub outline_none : (uses lens : List ℕ) → end_from backs fronts 0 (last_point fronts backs us) os ≡ None
        → Owes (cut_outline fronts backs os us (length uses) (length lens)) (Err EndsNotOnWire) uses uses lens lens
    unfolding cut_outline outcome flat
    outline_none uses lens e = rw (lt-ltb 0 (length us) some, end_none backs fronts 0 (last_point fronts backs us) os e) (refl, (refl, refl))

    pub rotated_long : (i : ℕ) → i ≤ length os → length (from_place i os) ≡ length os
    rotated_long i h = omega (arith, length-append (drop i os) (take i os), length-drop i os, length-take-le i os h)

    pub rotated_part : (l along : List ℕ) (i : ℕ) → end_from backs fronts 0 (last_point fronts backs us) os ≡ Some i → length os ≤ length l
        → along ≡ sets l 0 (from_place i os) → take (length os) along ≡ from_place i os
    rotated_part l along i e h f =
        let r = rotated_long i (omega (arith, (end_some backs fronts 0 (last_point fronts backs us) os i e).1)) in
        rw f (stored_all l (from_place i os) (omega (arith, r)) (length os) r)

    -- the outline from place i on, where the wire's back is
    from_some : (i m n : ℕ) → end_from backs fronts 0 (last_point fronts backs us) os ≡ Some i → cut_along fronts backs (from_place i os) us m n ≡ cut_outline fronts backs os us m n
    unfolding cut_along cut_outline cut_after cut_two outcome
    from_some i m n e =
        let s = has (first_point fronts backs us) (map (back_of fronts backs) os) in
        let front = has_begun (first_point fronts backs us) (back_of fronts backs) i os in
        let some-use = lt-ltb 0 (length us) some in
        let back = (end_some backs fronts 0 (last_point fronts backs us) os i e).0 in
        ⊎_elim
        (λ (d : s ≡ true). rw (some-use, back, e, front, d))
        (λ (d : s ≡ false). rw (some-use, back, e, front, d))
        (cases s)

    pub outline_some : (l along : List ℕ) (i m n : ℕ) → end_from backs fronts 0 (last_point fronts backs us) os ≡ Some i → length os ≤ length l
        → along ≡ sets l 0 (from_place i os) → cut_along fronts backs (take (length os) along) us m n ≡ cut_outline fronts backs os us m n
    outline_some l along i m n e h f = rw (rotated_part l along i e h f) (from_some i m n e)
