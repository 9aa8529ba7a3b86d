-- An outline added to a face that is given by its uses and its wires' lengths.
use Rattle.std.specs.Prelude.{ℕ, suc, ◌+◌, Bool, ◌&&◌, List, [], map, reverse, leb, length, Result}
use Rattle.edge.specs.Uses.{turned}
use Rattle.edit_answers.specs.Answers.{judged}
use Rattle.edit_answers.specs.declared.FaceEditError.{FaceEditError}
use Rattle.errors.specs.declared.Refusal.{Refusal}
use Rattle.face_edits.specs.FaceAnswers.{own_answer}
use Rattle.face_edits.specs.FaceEdits.{boundary_faults}
use Rattle.lists.specs.Lists.{pick}

abbrev pub first_of : List FaceEditError → Result Unit FaceEditError
first_of es = own_answer es tt

-- a wire as a face with this sign stores it
abbrev pub stored_as : Bool → List ℕ → List ℕ
stored_as reversed us = pick reversed (map turned (reverse us)) us

module _ (fronts backs own : List ℕ) (n : ℕ) (us : List ℕ) (m k : ℕ) where
  -- the face has the uses `own` and n wires; the lent lists have lengths m and k
  abbrev pub new_faults : List FaceEditError
  new_faults = boundary_faults fronts backs own us (leb (length own + length us) m && leb (suc n) k)

  abbrev pub boundary_answer : Result (ℕ × ℕ) FaceEditError
  boundary_answer = own_answer new_faults (length own + length us, suc n)

  -- what is written: all of a list, or nothing
  abbrev pub written_of : List ℕ → List ℕ
  written_of xs = judged [] new_faults (λ (f : Refusal). []) (λ (e : FaceEditError). []) xs
