-- The jobs of the program `edit` as lines: their names, the words that they take, and the lines of their answers (docs/GUIDE.md, Edits).
use Rattle.std.specs.Prelude.{ℕ, List, [], ◌∷◌, ◌++◌, Option, None, Some}
use Rattle.std.specs.Str.{bytes_eq}
use Rattle.answer_lines.specs.AnswerLines.{wires_text}
use Rattle.forms.specs.declared.WordKind.{WordKind}
use Rattle.forms.specs.declared.WordKind.TheVariants.{Label, Number, Parameter, Signed}
use Rattle.job_lines.specs.declared.FaceTask.TheVariants.{Add, CutFace, Glue}
use Rattle.job_lines.specs.declared.ShellTask.{ShellTask}
use Rattle.job_lines.specs.declared.ShellTask.TheVariants.{Concat, Cut, Point, Remove}
use Rattle.job_lines.specs.declared.Task.{Task}
use Rattle.job_lines.specs.declared.Task.TheVariants.{Face, Shell}
use Rattle.lines.specs.Lines.{number_line}
use Rattle.lists.specs.Lists.{pick}
use Rattle.output.specs.Text.{ascii, field}

-- the job that a name asks for
unfoldable pub job_named : List ℕ → Option Task
job_named w =
    pick (bytes_eq w (ascii "cut")) (Some (Shell Cut))
    (pick (bytes_eq w (ascii "remove")) (Some (Shell Remove))
    (pick (bytes_eq w (ascii "concat")) (Some (Shell Concat))
    (pick (bytes_eq w (ascii "point")) (Some (Shell Point))
    (pick (bytes_eq w (ascii "add")) (Some (Face Add))
    (pick (bytes_eq w (ascii "cutface")) (Some (Face CutFace))
    (pick (bytes_eq w (ascii "glue")) (Some (Face Glue)) None))))))

-- the kinds of its words after the first: numbers, uses or faces with their signs, a parameter, a label; and the kind of any further word, if there may be one
abbrev pub job_kinds : Task → List WordKind
job_kinds (Shell Cut) = Number ∷ Number ∷ Number ∷ Parameter ∷ []
job_kinds (Shell Remove) = Number ∷ Number ∷ []
job_kinds (Shell Concat) = Signed ∷ Signed ∷ []
job_kinds (Shell Point) = Label ∷ []
job_kinds (Face Add) = Signed ∷ []
job_kinds (Face CutFace) = Signed ∷ []
job_kinds (Face Glue) = Signed ∷ Signed ∷ []

abbrev pub job_rest : Task → Option WordKind
job_rest (Shell t) = None
job_rest (Face Add) = Some Signed
job_rest (Face CutFace) = Some Signed
job_rest (Face Glue) = None

abbrev pub job_form : Task → List ℕ
job_form (Shell Cut) = ascii "cut SHELL EDGE POINT PARAMETER"
job_form (Shell Remove) = ascii "remove SHELL POINT"
job_form (Shell Concat) = ascii "concat USE USE"
job_form (Shell Point) = ascii "point LABEL"
job_form (Face Add) = ascii "add FACE USE .."
job_form (Face CutFace) = ascii "cutface FACE USE .."
job_form (Face Glue) = ascii "glue FACE FACE"

-- a line that is no job, and the first word that is wrong or missing, counted from 1; one that begins with no job's name
unfoldable pub no_job : Option Task → ℕ → List ℕ
no_job None n = ascii "no job: begin with cut, remove, concat, point, add, cutface or glue\n"
no_job (Some t) n = field "no job: word " n ++ ascii " of " ++ job_form t ++ ascii "\n"

abbrev pub first_word : List (List ℕ) → List ℕ
first_word [] = []
first_word (w ∷ ws) = w

-- what is new: the edges, of which a cut has two, or the point
abbrev pub new_text : ShellTask → ℕ → ℕ → List ℕ
new_text Cut first second = field "done edges " first ++ number_line " " second
new_text Remove first second = number_line "done edge " first
new_text Concat first second = number_line "done edge " first
new_text Point first second = number_line "done point " first

-- a result's wires
unfoldable pub done_text : List (List ℕ) → List ℕ
done_text ws = ascii "done" ++ wires_text ws ++ ascii "\n"
