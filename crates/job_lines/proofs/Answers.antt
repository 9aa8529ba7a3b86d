-- The texts of the answers by their branches.
use Rattle.std.specs.Prelude.{None, Some}
use Prim.Native.Nat.{ℕ}
use mathlib.Core.List.{[], ◌++◌, ◌∷◌}
use mathlib.Core.Path.{◌≡◌, refl}
use Rattle.answer_lines.specs.AnswerLines.{wires_text}
use Rattle.lines.specs.Lines.{number_line, signed}
use Rattle.lines.specs.Parts.{word_number}
use Rattle.lists.specs.Lists.{flat}
use Rattle.output.specs.Text.{ascii, decimal, digits, field}
use Rattle.job_lines.specs.JobLines.{done_text, job_form, new_text, no_job}
use Rattle.job_lines.specs.declared.ShellTask.TheVariants.{Concat, Cut, Point, Remove}
use Rattle.job_lines.specs.declared.Task.{Task}
use Rattle.job_lines.specs.declared.Task.TheVariants.{Shell}

pub no_name : (n : ℕ) → no_job None n ≡ ascii "no job: begin with cut, remove, concat, point, add, cutface or glue\n"
unfolding no_job
no_name n = refl

pub no_word : (t : Task) (n : ℕ) → no_job (Some t) n ≡ (ascii "no job: word " ++ decimal n) ++ ascii " of " ++ job_form t ++ ascii "\n"
unfolding no_job field
no_word t n = refl

module _ (first second : ℕ) where
  pub edges_two : new_text Cut first second ≡ (ascii "done edges " ++ decimal first) ++ word_number (ascii " ") second
  unfolding number_line field
  edges_two = refl

  pub point_one : new_text Point first second ≡ word_number (ascii "done point ") first
  unfolding number_line field
  point_one = refl

  pub removed_one : new_text Remove first second ≡ word_number (ascii "done edge ") first
  unfolding number_line field
  removed_one = refl

  pub joined_one : new_text Concat first second ≡ word_number (ascii "done edge ") first
  unfolding number_line field
  joined_one = refl

-- examples
answers_of : (new_text Cut 7 8 ≡ ascii "done edges 7 8\n")
    × (new_text Concat 7 0 ≡ ascii "done edge 7\n")
    × (new_text Point 7 0 ≡ ascii "done point 7\n")
    × (done_text ((3 ∷ 32772 ∷ []) ∷ (0 ∷ []) ∷ []) ≡ ascii "done wire 3+ 4- wire 0+\n")
    × (no_job (Some (Shell Cut)) 5 ≡ ascii "no job: word 5 of cut SHELL EDGE POINT PARAMETER\n")
unfolding done_text no_job wires_text flat number_line signed field decimal digits
answers_of = (refl, refl, refl, refl, refl)
