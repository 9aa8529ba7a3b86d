-- What is judged of the wires that a glue leaves, and the lent lists after it.
use Rattle.std.specs.Prelude.{ℕ, List, [], map, ◌≡◌, get_or, length, Result, None, Some}
use Rattle.std.proofs.lemmas.List.Edits.{sets}
use Rattle.edit_answers.specs.Answers.{judged}
use Rattle.edit_answers.specs.declared.FaceEditError.{FaceEditError}
use Rattle.errors.specs.declared.Refusal.{Refusal}
use Rattle.face_edits.specs.FaceAnswers.{own_answer}
use Rattle.face_edits.specs.FaceEdits.{boundaries}
use Rattle.lists.specs.Lists.{flat}
use Rattle.pattern.specs.Contents.{Content}
use Rattle.shell.specs.Openings.{Kept}
use Rattle.glue_walk.specs.Walks.{Columns, Fits}

-- every kept use can be
abbrev pub EachFits : List ℕ → List ℕ → ℕ → Kept → Type 0
EachFits fronts backs points kept = (p u : ℕ) → get_or kept p None ≡ Some u → Fits fronts backs points u

-- two faces of a pattern with these columns, and its number of points
pub record Shown (c : Content) (f g : ℕ) (fronts backs first second : List ℕ) (points : ℕ) : Type 0 where
  pub columns : Columns c fronts backs
  pub one : flat (boundaries c f) ≡ first
  pub other : flat (boundaries c g) ≡ second
  pub all : length c.points ≡ points

-- ---- judging

-- the wires that are written, if nothing is refused
abbrev pub unrefused : List FaceEditError → List (List ℕ) → List (List ℕ)
unrefused faults ws = judged [] faults (λ (f : Refusal). []) (λ (e : FaceEditError). []) ws

-- the answer, and the lent lists after it
pub record Wrote (faults : List FaceEditError) (ws : List (List ℕ)) (us₀ ls₀ us ls : List ℕ) (r : Result (ℕ × ℕ) FaceEditError) : Type 0 where
  pub answer : r ≡ own_answer faults (length (flat ws), length ws)
  pub uses : us ≡ sets us₀ 0 (flat (unrefused faults ws))
  pub lengths : ls ≡ sets ls₀ 0 (map length (unrefused faults ws))
