-- What a job of the program `edit` does: the edit that it asks for, on a pattern file (docs/GUIDE.md, Edits; FORMAT 4, 5).
use Rattle.std.specs.Prelude.{ℕ, List, map, drop, get_or}
use Rattle.answers.specs.declared.Answer.{Answer}
use Rattle.file_concat.specs.FileConcat.{file_concat, file_concat_bytes}
use Rattle.file_cut.specs.FileCut.{file_cut, file_cut_bytes}
use Rattle.file_remove.specs.FileRemove.{file_remove, file_remove_bytes}
use Rattle.file_vertex.specs.FileVertex.{file_vertex, file_vertex_bytes}
use Rattle.file_face_edits.specs.FileFaceEdits.{file_add, file_add_out, file_cut_face, file_cut_face_out, file_glue, file_glue_out}
use Rattle.job_lines.specs.declared.FaceTask.{FaceTask}
use Rattle.job_lines.specs.declared.FaceTask.TheVariants.{Add, CutFace, Glue}
use Rattle.job_lines.specs.declared.ShellTask.{ShellTask}
use Rattle.job_lines.specs.declared.ShellTask.TheVariants.{Concat, Cut, Point, Remove}
use Rattle.words.specs.Words.{short}

-- a number above 65,535 names nothing, as 65,535 does
abbrev pub named : List ℕ → ℕ → ℕ
named vs i = short (get_or vs i 0)

abbrev pub wire_named : List ℕ → List ℕ
wire_named vs = map short (drop 1 vs)

-- an edit of a shell, or a point added, with these values on file s: the list `out` takes the edited file
abbrev pub shell_answer : ShellTask → List ℕ → List ℕ → List ℕ → Answer
shell_answer Cut vs s out = file_cut s (get_or vs 0 0) (named vs 1) (named vs 2) (get_or vs 3 0) out
shell_answer Remove vs s out = file_remove s (get_or vs 0 0) (named vs 1) out
shell_answer Concat vs s out = file_concat s (named vs 0) (named vs 1) out
shell_answer Point vs s out = file_vertex s (get_or vs 0 0) out

abbrev pub shell_out : ShellTask → List ℕ → List ℕ → List ℕ → List ℕ
shell_out Cut vs s out = file_cut_bytes s (get_or vs 0 0) (named vs 1) (named vs 2) (get_or vs 3 0) out
shell_out Remove vs s out = file_remove_bytes s (get_or vs 0 0) (named vs 1) out
shell_out Concat vs s out = file_concat_bytes s (named vs 0) (named vs 1) out
shell_out Point vs s out = file_vertex_bytes s (get_or vs 0 0) out

-- an edit of a face, and the wires of its result
abbrev pub face_answer : FaceTask → List ℕ → List ℕ → Answer
face_answer Add vs s = file_add s (named vs 0) (wire_named vs) 4096 4096
face_answer CutFace vs s = file_cut_face s (named vs 0) (wire_named vs) 4096 4096
face_answer Glue vs s = file_glue s (named vs 0) (named vs 1) 4096 4096

abbrev pub face_wires : FaceTask → List ℕ → List ℕ → List (List ℕ)
face_wires Add vs s = file_add_out s (named vs 0) (wire_named vs) 4096 4096
face_wires CutFace vs s = file_cut_face_out s (named vs 0) (wire_named vs) 4096 4096
face_wires Glue vs s = file_glue_out s (named vs 0) (named vs 1) 4096 4096
