-- What an edit of a face owes: its answer, and what the lent lists hold after it.
use Prim.Native.Nat.{ℕ}
use mathlib.Core.List.{List, [], ◌∷◌, map}
use mathlib.Core.Path.{◌∙◌, ◌≡◌, ap, sym}
use lib.ListN.{length}
use lib.Seq.{sets}
use Rattle.edit_answers.specs.Answers.{answer_of, judged}
use Rattle.edit_answers.specs.declared.FaceEditError.{FaceEditError}
use Rattle.errors.specs.Faults.{first}
use Rattle.errors.specs.declared.CallError.{CallError}
use Rattle.errors.specs.declared.CallError.TheVariants.{Refused, Unread}
use Rattle.errors.specs.declared.Refusal.{Refusal}
use Rattle.face_edits.specs.FaceAnswers.{face_answer, face_out, own_answer}
use Rattle.lists.specs.Lists.{flat}
use Rattle.pattern.specs.Checks.{pattern_faults}
use Rattle.pattern.specs.Contents.{Pattern}
use Rattle.std.specs.Prelude.{Err, Ok, Result}
use Rattle.std.specs.Result.{IsErrAnd, MatchResult}
use Rattle.errors.proofs.Laws.{handed_on}

refused_judged {ℓ} : {A : Type ℓ} (gs : List Refusal) (es : List FaceEditError) (refused : Refusal → A) (not : FaceEditError → A) (done : A) (g : Refusal)
    → first gs ≡ Err g → judged gs es refused not done ≡ refused g
refused_judged [] es refused not done g h = cc
refused_judged (f ∷ gs) es refused not done g h = let same : f ≡ g = cc in ap refused same

-- the edit's own answer, as the call's
abbrev pub handed : Result (ℕ × ℕ) FaceEditError → Result (ℕ × ℕ) (CallError FaceEditError)
handed (Ok x) = Ok x
handed (Err e) = Err (Refused e)

pub handed_by : (a : Result (ℕ × ℕ) FaceEditError) (r : Result (ℕ × ℕ) (CallError FaceEditError)) → MatchResult a (λ x. r ≡ Ok x) (λ e. IsErrAnd r (λ d. d ≡ Refused e)) → r ≡ handed a
handed_by (Ok x) r h = h
handed_by (Err e) r h = handed_on r (Refused e) h

pub handed_answer : (es : List FaceEditError) (x : ℕ × ℕ) (a : Result (ℕ × ℕ) FaceEditError) (r : Result (ℕ × ℕ) (CallError FaceEditError)) → a ≡ own_answer es x → r ≡ handed a → r ≡ answer_of [] es x
handed_answer [] x a r own hand = hand ∙ ap handed own
handed_answer (e ∷ es) x a r own hand = hand ∙ ap handed own

module _ (p : Pattern) (es : List FaceEditError) (ws : List (List ℕ)) (uses lens : List ℕ) where
  -- es: what is wrong, beyond the reading checks; ws: the wires to write
  abbrev pub Owed : Result (ℕ × ℕ) (CallError FaceEditError) → List ℕ → List ℕ → Type 0
  Owed r uses' lens' = (r ≡ face_answer p es ws) × ((uses' ≡ sets uses 0 (flat (face_out p es ws))) × (lens' ≡ sets lens 0 (map length (face_out p es ws))))

  -- refused by the reading checks: nothing is written
  pub unread_owed : (g : Refusal) → first (pattern_faults p) ≡ Err g → (r : Result (ℕ × ℕ) (CallError FaceEditError)) → r ≡ Err (Unread g) → Owed r uses lens
  unfolding flat
  unread_owed g h r is =
      let o : face_out p es ws ≡ [] = refused_judged (pattern_faults p) es (λ (f : Refusal). []) (λ (e : FaceEditError). []) ws g h in
      (is ∙ sym (refused_judged (pattern_faults p) es (λ f. Err (Unread f)) (λ e. Err (Refused e)) _ g h), (rw o, rw o))
