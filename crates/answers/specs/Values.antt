-- The answers as numbers, for callers outside the library: what each answer replies, in six numbers (FORMAT 6.2).
use Rattle.std.specs.Prelude.{ℕ, [], ◌∷◌, Result, eqb, get_or}
use Rattle.answers.specs.declared.Answer.{Answer}
use Rattle.calls.specs.Calls.{figure_reply}
use Rattle.calls.specs.declared.ShellFigure.{ShellFigure}
use Rattle.edge.specs.declared.EdgeID.{EdgeID}
use Rattle.edit_answers.specs.Answers.{cut_reply, face_reply, join_reply, vertex_reply}
use Rattle.edit_answers.specs.declared.EditError.{EditError}
use Rattle.edit_answers.specs.declared.FaceEditError.{FaceEditError}
use Rattle.errors.specs.Numbers.{Reply, check_reply, done as Reply·done, refused as Reply·refused, unread as Reply·unread}
use Rattle.errors.specs.declared.CallError.{CallError}
use Rattle.errors.specs.declared.NotThere.{NotThere}
use Rattle.errors.specs.declared.Refusal.{Refusal}
use Rattle.lists.specs.Lists.{pick}
use Rattle.pattern.specs.Outlines.{place_reply}
use Rattle.solid.specs.declared.SolidError.{SolidError}
use Rattle.solid_calls.specs.Solids.{solid_answer_reply}
use Rattle.store_write.specs.Writing.{written_reply}
use Rattle.store_write.specs.declared.NoSpace.{NoSpace}
use Rattle.vertex.specs.declared.VertexID.{VertexID}

-- how the call ended, the number, the values, and 0 where there are no more
abbrev pub answer : Reply → Answer
answer r = record {
  outcome = r.outcome;
  number = r.number;
  first = get_or r.values 0 0;
  second = get_or r.values 1 0;
  third = get_or r.values 2 0;
  fourth = get_or r.values 3 0;
}

abbrev pub done : ℕ → ℕ → ℕ → Answer
done first second third = answer (Reply·done (first ∷ second ∷ third ∷ []))

abbrev pub unread : Refusal → Answer
unread f = answer (Reply·unread f)

abbrev pub refused : ℕ → ℕ → Answer
refused n first = answer (Reply·refused n (first ∷ []))

-- ---- reading and writing

abbrev pub check_values : Result Unit Refusal → Answer
check_values a = answer (check_reply a)

abbrev pub place_values : Result (ℕ × ℕ) (CallError NotThere) → Answer
place_values a = answer (place_reply a)

abbrev pub written_values : Result ℕ (CallError NoSpace) → Answer
written_values a = answer (written_reply a)

-- ---- reports

abbrev pub figure_values : Result ShellFigure (CallError NotThere) → Answer
figure_values a = answer (figure_reply a)

abbrev pub solid_values : Result Unit (CallError SolidError) → Answer
solid_values a = answer (solid_answer_reply a)

-- ---- edits

-- an edit of a shell that is done has its file written: its values as two, then the length; else the first refusal of the two
abbrev pub with_file : Reply → Reply → Reply
with_file edit file =
    pick (eqb edit.outcome 0)
    (pick (eqb file.outcome 0) (Reply·done (get_or edit.values 0 0 ∷ get_or edit.values 1 0 ∷ file.values)) file)
    edit

abbrev pub cut_values : Result (EdgeID × EdgeID) (CallError EditError) → Result ℕ (CallError NoSpace) → Answer
cut_values a w = answer (with_file (cut_reply a) (written_reply w))

abbrev pub join_values : Result EdgeID (CallError EditError) → Result ℕ (CallError NoSpace) → Answer
join_values a w = answer (with_file (join_reply a) (written_reply w))

abbrev pub vertex_values : Result VertexID (CallError EditError) → Result ℕ (CallError NoSpace) → Answer
vertex_values a w = answer (with_file (vertex_reply a) (written_reply w))

abbrev pub face_values : Result (ℕ × ℕ) (CallError FaceEditError) → Answer
face_values a = answer (face_reply a)
