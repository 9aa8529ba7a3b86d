-- 17 is answered exactly if nothing else is wrong and the result is longer than a lent list.
use Rattle.errors.specs.declared.CallError.TheVariants.{Refused}
use Rattle.std.specs.Prelude.{Err}
use Prim.Native.Nat.{◌/◌, ℕ}
use mathlib.Core.Bool.{Bool, ◌&&◌, false, not, true, true≢false}
use mathlib.Core.List.{List, [], ◌++◌, ◌∷◌, append_assoc, append-nil, map}
use mathlib.Core.Path.{◌∙◌, ◌≡◌, ap, refl, sym}
use lib.Dec.{eqb, ltb}
use lib.ListN.{length, take}
use Rattle.edit_answers.specs.Answers.{answer_of, face_edit_number}
use Rattle.edit_answers.specs.declared.FaceEditError.{FaceEditError}
use Rattle.edit_answers.specs.declared.FaceEditError.TheVariants.{EndsNotOnWire, FaceRule, FacesDiffer, NoSpace, NotDisjointWires, NothingRemains, NotOneWire, OppositeEdges, Unnamed, Wire}
use Rattle.errors.specs.declared.Refusal.{Refusal}
use Rattle.errors.specs.declared.WireError.{WireError}
use Rattle.errors.specs.declared.WireError.TheVariants.{EmptyWire, NotClosedWire, NotSimpleWire}
use Rattle.face_edits.specs.FaceAnswers.{add_answer, cut_face_answer, face_answer, glue_answer}
use Rattle.face_edits.specs.FaceEdits.{add_faults, added, are_uses, backs_in, boundaries, cut_face_faults, cut_in_two, ends_on, first_cut, fits, fronts_in, glue_faults, glued, is_face, is_some, keeps_rule, left_faults, meeting, met_faults, outline_of, result_faults, second_cut, surface_of, two_faults}
use Rattle.face_edits.specs.FaceTheorems.{OnlyLong, others}
use Rattle.lists.proofs.Count.{All, all_append}
use Rattle.lists.proofs.Parts.{only_append}
use Rattle.lists.specs.Lists.{disjoint, flat, only, unless}
use Rattle.pattern.specs.Checks.{pattern_faults}
use Rattle.pattern.specs.Contents.{Content, Pattern, content}
use Rattle.wire.specs.Wires.{points, wire_faults}

-- a refusal other than 17
abbrev Other : FaceEditError → Type 0
Other e = not (eqb (face_edit_number e) 17) ≡ true

other_wire : (e : WireError) → Other (Wire e)
other_wire EmptyWire = refl
other_wire NotClosedWire = refl
other_wire NotSimpleWire = refl

other_wires : (es : List WireError) → All Other (map Wire es)
other_wires [] = tt
other_wires (e ∷ es) = (other_wire e, other_wires es)

unless_other : (b : Bool) (e : FaceEditError) → Other e → All Other (unless b e)
unless_other true e h = tt
unless_other false e h = (h, tt)

others_all : (es : List FaceEditError) → All Other es → others es ≡ es
unfolding only
others_all [] h = refl
others_all (e ∷ es) h = rw (h.0, others_all es h.1)

no_others : (b : Bool) → others (unless b NoSpace) ≡ []
unfolding only
no_others true = refl
no_others false = refl

-- refusals of which 17 is the last, if there is no room
record Row (room : Bool) (es : List FaceEditError) : Type 0 where
  before : List FaceEditError
  is : es ≡ before ++ unless room NoSpace
  other : All Other before

row_last : (room : Bool) → Row room (unless room NoSpace)
row_last room = record { before = []; is = refl; other = tt }

row_more : (room : Bool) (es fs : List FaceEditError) → All Other es → Row room fs → Row room (es ++ fs)
row_more room es fs h r = record {
  before = es ++ r.before;
  is = ap (λ (x : List FaceEditError). es ++ x) r.is ∙ sym (append_assoc es r.before (unless room NoSpace));
  other = all_append Other es r.before h r.other;
}

not_only : (fs : List Refusal) (es : List FaceEditError) (m k : ℕ) → answer_of {T = ℕ × ℕ} fs es (m, k) ≡ Err (Refused NoSpace) → (fs ≡ []) × (take 1 es ≡ NoSpace ∷ [])
not_only [] [] m k h = (refl, cc)
not_only [] (e ∷ es) m k h = let z : e ≡ NoSpace = cc in (refl, ap (λ (d : FaceEditError). d ∷ []) z)
not_only (f ∷ fs) es m k h = (cc, cc)

first_full : (es : List FaceEditError) (b : Bool) → All Other es → take 1 (es ++ unless b NoSpace) ≡ NoSpace ∷ [] → (es ≡ []) × (b ≡ false)
first_full [] true h t = (refl, cc)
first_full [] false h t = (refl, refl)
first_full (e ∷ es) b h t =
    let z : e ≡ NoSpace = cc in
    let f : false ≡ true = rw z at h.0 in
    absurd (true≢false (sym f))

module _ (p : Pattern) (es : List FaceEditError) (wires : List (List ℕ)) (m k : ℕ) (row : Row (fits wires m k) es) where
  abbrev room : Bool
  room = fits wires m k

  others_are : others es ≡ row.before
  others_are =
      ap others row.is ∙ only_append (λ (e : FaceEditError). not (eqb (face_edit_number e) 17)) row.before (unless room NoSpace)
      ∙ rw (others_all row.before row.other, no_others room) (append-nil row.before)

  no_space : (face_answer p es wires ≡ (Err (Refused NoSpace)) → OnlyLong p es wires m k) × (OnlyLong p es wires m k → face_answer p es wires ≡ (Err (Refused NoSpace)))
  no_space = (only_if, then)
    where
      only_if : face_answer p es wires ≡ (Err (Refused NoSpace)) → OnlyLong p es wires m k
      only_if a =
          let t = not_only (pattern_faults p) es (length (flat wires)) (length wires) a in
          let s = first_full row.before room row.other (rw row.is at t.1) in
          (t.0, others_are ∙ s.0, s.1)

      then : OnlyLong p es wires m k → face_answer p es wires ≡ (Err (Refused NoSpace))
      then t =
          let none : row.before ≡ [] = sym others_are ∙ t.1 in
          let all : es ≡ NoSpace ∷ [] = row.is ∙ rw (none, t.2) in
          rw (t.0, all)

-- ---- the edits

module _ (p : Pattern) where
  abbrev c : Content
  c = content p

  abbrev fronts : List ℕ
  fronts = fronts_in c

  abbrev backs : List ℕ
  backs = backs_in c

  pub add_no_space : (f : ℕ) (us : List ℕ) (m k : ℕ)
      → (add_answer p f us m k ≡ (Err (Refused NoSpace)) → OnlyLong p (add_faults c f us m k) (added c f us) m k)
      × (OnlyLong p (add_faults c f us m k) (added c f us) m k → add_answer p f us m k ≡ (Err (Refused NoSpace)))
  add_no_space f us m k =
      let wires = added c f us in
      let room = fits wires m k in
      let named = is_face c f && are_uses c us in
      let apart = disjoint (points fronts backs us) (points fronts backs (flat (boundaries c f))) in
      let wire = map Wire (wire_faults fronts backs us) ++ unless apart NotDisjointWires in
      no_space p (add_faults c f us m k) wires m k
      (row_more room (unless named Unnamed) (wire ++ unless room NoSpace) (unless_other named Unnamed refl)
      (row_more room wire (unless room NoSpace) (all_append Other (map Wire (wire_faults fronts backs us)) (unless apart NotDisjointWires) (other_wires (wire_faults fronts backs us)) (unless_other apart NotDisjointWires refl))
      (row_last room)))

  pub cut_face_no_space : (f : ℕ) (us : List ℕ) (m k : ℕ)
      → (cut_face_answer p f us m k ≡ (Err (Refused NoSpace)) → OnlyLong p (cut_face_faults c f us m k) (cut_in_two c f us) m k)
      × (OnlyLong p (cut_face_faults c f us m k) (cut_in_two c f us) m k → cut_face_answer p f us m k ≡ (Err (Refused NoSpace)))
  cut_face_no_space f us m k =
      let wires = cut_in_two c f us in
      let room = fits wires m k in
      let first = first_cut fronts backs (outline_of c f) us in
      let second = second_cut fronts backs (outline_of c f) us in
      let named = is_face c f && are_uses c us in
      let one = eqb (length (boundaries c f)) 1 in
      let on = ends_on fronts backs (outline_of c f) us in
      let rule = keeps_rule fronts backs (first ∷ []) && keeps_rule fronts backs (second ∷ []) in
      no_space p (cut_face_faults c f us m k) wires m k
      (row_more room (unless named Unnamed ++ unless one NotOneWire) (unless on EndsNotOnWire ++ two_faults fronts backs first second m k) (all_append Other (unless named Unnamed) (unless one NotOneWire) (unless_other named Unnamed refl) (unless_other one NotOneWire refl))
      (row_more room (unless on EndsNotOnWire) (two_faults fronts backs first second m k) (unless_other on EndsNotOnWire refl)
      (row_more room (unless rule FaceRule) (unless room NoSpace) (unless_other rule FaceRule refl) (row_last room))))

  pub glue_no_space : (f g m k : ℕ)
      → (glue_answer p f g m k ≡ (Err (Refused NoSpace)) → OnlyLong p (glue_faults c f g m k) (glued c f g) m k)
      × (OnlyLong p (glue_faults c f g m k) (glued c f g) m k → glue_answer p f g m k ≡ (Err (Refused NoSpace)))
  glue_no_space f g m k =
      let wires = glued c f g in
      let room = fits wires m k in
      let named = is_face c f && is_face c g in
      let alike = eqb (surface_of c f) (surface_of c g) && eqb (f / 32768) (g / 32768) in
      let met = is_some (meeting c f g) in
      let some = ltb 0 (length wires) in
      let rule = keeps_rule fronts backs wires in
      no_space p (glue_faults c f g m k) wires m k
      (row_more room (unless named Unnamed ++ unless alike FacesDiffer) (met_faults c (meeting c f g) m k) (all_append Other (unless named Unnamed) (unless alike FacesDiffer) (unless_other named Unnamed refl) (unless_other alike FacesDiffer refl))
      (row_more room (unless met OppositeEdges) (left_faults c wires m k) (unless_other met OppositeEdges refl)
      (row_more room (unless some NothingRemains) (result_faults rule wires m k) (unless_other some NothingRemains refl)
      (row_more room (unless rule FaceRule) (unless room NoSpace) (unless_other rule FaceRule refl) (row_last room)))))
