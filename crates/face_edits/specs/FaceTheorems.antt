-- What the theorems on the edits of a face speak of, beside the edits (FORMAT 5).
use Rattle.std.specs.Prelude.{ℕ, false, not, List, [], ◌≡◌, eqb}
use Rattle.edit_answers.specs.Answers.{face_edit_number}
use Rattle.edit_answers.specs.declared.FaceEditError.{FaceEditError}
use Rattle.face_edits.specs.FaceEdits.{fits}
use Rattle.lists.specs.Lists.{only}
use Rattle.pattern.specs.Checks.{pattern_faults}
use Rattle.pattern.specs.Contents.{Pattern}

-- the refusals other than 17
abbrev pub others : List FaceEditError → List FaceEditError
others es = only (λ (e : FaceEditError). not (eqb (face_edit_number e) 17)) es

-- nothing else is wrong, and the result is longer than lists of m uses and k lengths
abbrev pub OnlyLong : Pattern → List FaceEditError → List (List ℕ) → ℕ → ℕ → Type 0
OnlyLong p es wires m k = (pattern_faults p ≡ []) × (others es ≡ []) × (fits wires m k ≡ false)
