-- Examples: lines that are jobs and lines that are not.
use Prim.Native.Nat.{ℕ}
use mathlib.Core.Bool.{true}
use mathlib.Core.List.{List, [], ◌∷◌}
use mathlib.Core.Path.{◌≡◌, refl}
use Rattle.forms.specs.Forms.{label, token, values}
use Rattle.job_lines.specs.JobLines.{job_named, no_job}
use Rattle.output.specs.Text.{ascii, decimal, digits, field}
use Rattle.text.specs.Text.{words}
use Rattle.text.specs.Tokens.{all_digits, number, signed, value_after}
use Rattle.jobs.specs.Jobs.{has_mark, is_job, line_text, line_values, unnamed_text}

jobs_read : (line_values (ascii "cut 0 3 12 nowhere") ≡ 0 ∷ 3 ∷ 12 ∷ 0x7ff8000000000000 ∷ [])
    × (line_values (ascii "add\t2- 7+ 40000-\r") ≡ 32770 ∷ 7 ∷ 65535 ∷ [])
    × (is_job (ascii "remove 0 5\r") ≡ true)
    × (line_values (ascii "point 4294967295") ≡ 4294967295 ∷ [])
unfolding values token label words number signed value_after all_digits job_named
jobs_read = (refl, refl, refl, refl)

no_jobs : (s out : List ℕ)
    → (line_text (ascii "remove 0 5 6") s out ≡ ascii "no job: word 4 of remove SHELL POINT\n")
    × (line_text (ascii "glue 1+ 2") s out ≡ ascii "no job: word 3 of glue FACE FACE\n")
    × (line_text (ascii "point 4294967296") s out ≡ ascii "no job: word 2 of point LABEL\n")
    × (line_text [] s out ≡ ascii "no job: begin with cut, remove, concat, point, add, cutface or glue\n")
    × (line_text (239 ∷ 187 ∷ 191 ∷ ascii "remove 0 5") s out ≡ ascii "no job: begins with a byte order mark: save the jobs as UTF-8 without one\n")
unfolding line_text unnamed_text has_mark no_job field decimal digits values token label words number signed value_after all_digits job_named
no_jobs s out = (refl, refl, refl, refl, refl)
