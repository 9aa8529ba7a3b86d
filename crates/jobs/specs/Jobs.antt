-- The jobs of the program `edit`: a line of text and a pattern file give an answer, and the file afterwards (docs/GUIDE.md, Edits).
use Rattle.std.specs.Prelude.{ℕ, ◌+◌, Bool, ◌&&◌, false, List, [], ◌∷◌, eqb, leb, drop, length, take, Option, None, Some}
use Rattle.std.specs.Str.{bytes_eq}
use Rattle.answer_lines.specs.AnswerLines.{refused_text}
use Rattle.answers.specs.declared.Answer.{Answer}
use Rattle.forms.specs.Forms.{values}
use Rattle.job_edits.specs.JobEdits.{face_answer, face_wires, shell_answer, shell_out}
use Rattle.job_lines.specs.JobLines.{done_text, first_word, job_kinds, job_named, job_rest, new_text, no_job}
use Rattle.job_lines.specs.declared.ShellTask.{ShellTask}
use Rattle.job_lines.specs.declared.Task.{Task}
use Rattle.job_lines.specs.declared.Task.TheVariants.{Face, Shell}
use Rattle.lists.specs.Lists.{pick}
use Rattle.output.specs.Text.{ascii}
use Rattle.text.specs.Text.{trimmed, words}

-- ---- the answer as a line

abbrev pub answer_text : Answer → List ℕ → List ℕ
answer_text a done = pick (eqb a.outcome 0) done (refused_text a.outcome a.number a.first a.second)

-- the new edges, or the new point
unfoldable pub shell_text : ShellTask → Answer → List ℕ
shell_text t a = answer_text a (new_text t a.first a.second)

-- the result's wires
unfoldable pub face_text : Answer → List (List ℕ) → List ℕ
face_text a ws = answer_text a (done_text ws)

abbrev pub job_text : Task → List ℕ → List ℕ → List ℕ → List ℕ
job_text (Shell t) vs s out = shell_text t (shell_answer t vs s out)
job_text (Face t) vs s out = face_text (face_answer t vs s) (face_wires t vs s)

-- the list afterwards, and the length of the edited file; 0 if the file stays as it is
abbrev pub job_out : Task → List ℕ → List ℕ → List ℕ → List ℕ
job_out (Shell t) vs s out = shell_out t vs s out
job_out (Face t) vs s out = out

abbrev pub job_length : Task → List ℕ → List ℕ → List ℕ → ℕ
job_length (Shell t) vs s out = (shell_answer t vs s out).third
job_length (Face t) vs s out = 0

-- ---- a line

abbrev pub line_job : List ℕ → Option Task
line_job l = job_named (first_word (words (trimmed l)))

abbrev pub line_words : List ℕ → List (List ℕ)
line_words l = drop 1 (words (trimmed l))

-- the values of the words after the job's name, as far as they are of their kinds
abbrev pub named_values : Option Task → List (List ℕ) → List ℕ
named_values None ws = []
named_values (Some t) ws = values (job_kinds t) (job_rest t) 0 ws

abbrev pub line_values : List ℕ → List ℕ
line_values l = named_values (line_job l) (line_words l)

-- a job's name, and words that are each of its kind, none missing
abbrev pub is_whole : Option Task → List ℕ → List (List ℕ) → Bool
is_whole None vs ws = false
is_whole (Some t) vs ws = eqb (length vs) (length ws) && leb (length (job_kinds t)) (length ws)

-- such a line, of at most 65,536 bytes
abbrev pub is_job : List ℕ → Bool
is_job l = leb (length l) 65536 && is_whole (line_job l) (line_values l) (line_words l)

-- the byte order mark of UTF-8
unfoldable pub has_mark : List ℕ → Bool
has_mark l = bytes_eq (239 ∷ 187 ∷ 191 ∷ []) (take 3 l)

-- a line that begins with no job's name
unfoldable pub unnamed_text : List ℕ → List ℕ
unnamed_text l =
    pick (has_mark l) (ascii "no job: begins with a byte order mark: save the jobs as UTF-8 without one\n") (no_job None 2)

abbrev pub named_text : Option Task → List ℕ → List ℕ → List ℕ → List ℕ
named_text None l s out = unnamed_text l
named_text (Some t) l s out = pick (is_job l) (job_text t (line_values l) s out) (no_job (Some t) (length (line_values l) + 2))

unfoldable pub line_text : List ℕ → List ℕ → List ℕ → List ℕ
line_text l s out = pick (leb (length l) 65536) (named_text (line_job l) l s out) (ascii "no job: over 65536 bytes\n")

-- the list afterwards, and the length of the edited file; 0 if the file stays as it is
abbrev pub named_out : Option Task → List ℕ → List ℕ → List ℕ → List ℕ
named_out None vs s out = out
named_out (Some t) vs s out = job_out t vs s out

unfoldable pub line_out : List ℕ → List ℕ → List ℕ → List ℕ
line_out l s out = pick (is_job l) (named_out (line_job l) (line_values l) s out) out

abbrev pub named_length : Option Task → List ℕ → List ℕ → List ℕ → ℕ
named_length None vs s out = 0
named_length (Some t) vs s out = job_length t vs s out

unfoldable pub line_length : List ℕ → List ℕ → List ℕ → ℕ
line_length l s out = pick (is_job l) (named_length (line_job l) (line_values l) s out) 0
