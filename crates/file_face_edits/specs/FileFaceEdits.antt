-- The edits of a face on a pattern file, given by its bytes: what is answered, and the wires that are written (FORMAT 5, 6.2). m and k are the lengths of the lent lists of uses and of wire lengths.
use Rattle.std.specs.Prelude.{ℕ, List}
use Rattle.answers.specs.Read.{if_read, when_read}
use Rattle.answers.specs.Values.{face_values}
use Rattle.answers.specs.declared.Answer.{Answer}
use Rattle.face_edits.specs.FaceAnswers.{add_answer, add_out, cut_face_answer, cut_face_out, glue_answer, glue_out}
use Rattle.store_read.specs.Loading.{check_of, pattern_of}

abbrev pub file_add : List ℕ → ℕ → List ℕ → ℕ → ℕ → Answer
file_add s f us m k = when_read (check_of s) (face_values (add_answer (pattern_of s) f us m k))

abbrev pub file_add_out : List ℕ → ℕ → List ℕ → ℕ → ℕ → List (List ℕ)
file_add_out s f us m k = if_read (check_of s) (add_out (pattern_of s) f us m k)

abbrev pub file_cut_face : List ℕ → ℕ → List ℕ → ℕ → ℕ → Answer
file_cut_face s f us m k = when_read (check_of s) (face_values (cut_face_answer (pattern_of s) f us m k))

abbrev pub file_cut_face_out : List ℕ → ℕ → List ℕ → ℕ → ℕ → List (List ℕ)
file_cut_face_out s f us m k = if_read (check_of s) (cut_face_out (pattern_of s) f us m k)

abbrev pub file_glue : List ℕ → ℕ → ℕ → ℕ → ℕ → Answer
file_glue s f g m k = when_read (check_of s) (face_values (glue_answer (pattern_of s) f g m k))

abbrev pub file_glue_out : List ℕ → ℕ → ℕ → ℕ → ℕ → List (List ℕ)
file_glue_out s f g m k = if_read (check_of s) (glue_out (pattern_of s) f g m k)
