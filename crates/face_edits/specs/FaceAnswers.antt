-- What each edit of a face answers, and the wires that it writes. The reading checks come first; refused, nothing is written (FORMAT 5.1).
use Rattle.errors.specs.declared.CallError.{CallError}
use Rattle.std.specs.Prelude.{ℕ, List, [], ◌∷◌, length, Err, Ok, Result}
use Rattle.edit_answers.specs.Answers.{answer_of, judged}
use Rattle.edit_answers.specs.declared.FaceEditError.{FaceEditError}
use Rattle.errors.specs.declared.Refusal.{Refusal}
use Rattle.face_edits.specs.FaceEdits.{add_faults, added, cut_face_faults, cut_in_two, glue_faults, glued}
use Rattle.lists.specs.Lists.{flat}
use Rattle.pattern.specs.Checks.{pattern_faults}
use Rattle.pattern.specs.Contents.{Pattern, content}

-- what is done, unless one of the edit's own refuses; where the reading checks have passed
abbrev pub own_answer : {T E : Type 0} → List E → T → Result T E
own_answer [] x = Ok x
own_answer (e ∷ es) x = Err e

-- the two lengths of the result
abbrev pub face_answer : Pattern → List FaceEditError → List (List ℕ) → Result (ℕ × ℕ) (CallError FaceEditError)
face_answer p faults wires = answer_of (pattern_faults p) faults (length (flat wires), length wires)

-- the wires that are written
abbrev pub face_out : Pattern → List FaceEditError → List (List ℕ) → List (List ℕ)
face_out p faults wires = judged (pattern_faults p) faults (λ (f : Refusal). []) (λ (e : FaceEditError). []) wires

-- m and k: the lengths of the lent lists of uses and of wire lengths
abbrev pub add_answer : Pattern → ℕ → List ℕ → ℕ → ℕ → Result (ℕ × ℕ) (CallError FaceEditError)
add_answer p f us m k = face_answer p (add_faults (content p) f us m k) (added (content p) f us)

abbrev pub add_out : Pattern → ℕ → List ℕ → ℕ → ℕ → List (List ℕ)
add_out p f us m k = face_out p (add_faults (content p) f us m k) (added (content p) f us)

abbrev pub cut_face_answer : Pattern → ℕ → List ℕ → ℕ → ℕ → Result (ℕ × ℕ) (CallError FaceEditError)
cut_face_answer p f us m k = face_answer p (cut_face_faults (content p) f us m k) (cut_in_two (content p) f us)

abbrev pub cut_face_out : Pattern → ℕ → List ℕ → ℕ → ℕ → List (List ℕ)
cut_face_out p f us m k = face_out p (cut_face_faults (content p) f us m k) (cut_in_two (content p) f us)

abbrev pub glue_answer : Pattern → ℕ → ℕ → ℕ → ℕ → Result (ℕ × ℕ) (CallError FaceEditError)
glue_answer p f g m k = face_answer p (glue_faults (content p) f g m k) (glued (content p) f g)

abbrev pub glue_out : Pattern → ℕ → ℕ → ℕ → ℕ → List (List ℕ)
glue_out p f g m k = face_out p (glue_faults (content p) f g m k) (glued (content p) f g)
