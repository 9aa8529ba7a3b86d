-- The two results of a cut, as the code makes them: on lists of uses, with the ends of the edges in two columns.
use Rattle.std.specs.Prelude.{ℕ, ◌<◌, Bool, List, [], ◌∷◌, ◌≡◌, get_or, length, Result}
use Rattle.lists.specs.Lists.{flat}
use Rattle.edit_answers.specs.Answers.{judged}
use Rattle.edit_answers.specs.declared.FaceEditError.{FaceEditError}
use Rattle.errors.specs.declared.Refusal.{Refusal}
use Rattle.face_edits.specs.FaceAnswers.{own_answer}
use Rattle.face_edits.specs.FaceEdits.{first_of, keeps_rule, second_of, two_faults}

-- the answer, and the wires that are written
pub record Cut : Type 0 where
  pub answer : Result (ℕ × ℕ) FaceEditError
  pub out : List (List ℕ)

-- of a pattern without reading fault
unfoldable pub outcome : List FaceEditError → List (List ℕ) → Cut
outcome faults wires = record {
  answer = own_answer faults (length (flat wires), length wires);
  out = judged [] faults (λ (f : Refusal). []) (λ (e : FaceEditError). []) wires;
}

-- the numbers of the edges' ends, each of one of 2,048 points
pub record PointEnds (fronts backs : List ℕ) : Type 0 where
  pub alike : length backs ≡ length fronts
  pub front : (e : ℕ) → e < length fronts → get_or fronts e 0 < 2048
  pub back : (e : ℕ) → e < length fronts → get_or backs e 0 < 2048

module _ (fronts backs : List ℕ) where
  -- whether a wire alone keeps the face rule
  abbrev pub keeps : List ℕ → Bool
  keeps us = keeps_rule fronts backs (us ∷ [])

  -- two wires, for lists of m uses and n lengths: 28, 17
  unfoldable pub cut_two : List ℕ → List ℕ → ℕ → ℕ → Cut
  cut_two a b m n = outcome (two_faults fronts backs a b m n) (a ∷ b ∷ [])

  -- an outline that begins at the wire's back, cut after k uses
  unfoldable pub cut_after : List ℕ → ℕ → List ℕ → ℕ → ℕ → Cut
  cut_after along k us m n = cut_two (first_of along k us) (second_of along k us) m n
