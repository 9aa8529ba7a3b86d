-- The texts of the answers by their branches.
use Prim.Native.Nat.{ℕ}
use mathlib.Core.List.{List}
use mathlib.Core.Path.{◌∙◌, ◌≡◌, ap, sym}
use lib.ListN.{length}
use lib.Seq.{sets}
use borrow.Author.Tests.{ne_eqb}
use Rattle.answer_lines.specs.AnswerLines.{refused_text}
use Rattle.answers.specs.declared.Answer.{Answer}
use Rattle.job_edits.specs.JobEdits.{face_answer, face_wires}
use Rattle.job_lines.specs.JobLines.{done_text, new_text}
use Rattle.job_lines.specs.declared.FaceTask.{FaceTask}
use Rattle.job_lines.specs.declared.ShellTask.{ShellTask}
use Rattle.jobs.specs.Jobs.{answer_text, face_text, shell_text}

module _ (a : Answer) (done : List ℕ) where
  pub answer_refused : (a.outcome ≡ 0 → ⊥) → answer_text a done ≡ refused_text a.outcome a.number a.first a.second
  answer_refused e = rw (ne_eqb a.outcome 0 e)

  pub answer_done : a.outcome ≡ 0 → answer_text a done ≡ done
  answer_done e = rw e

pub shell_refused : (t : ShellTask) (a b : Answer) → a ≡ b → (a.outcome ≡ 0 → ⊥) → shell_text t b ≡ refused_text a.outcome a.number a.first a.second
unfolding shell_text
shell_refused t a b is e = ap (shell_text t) (sym is) ∙ answer_refused a _ e

pub shell_done : (t : ShellTask) (a b : Answer) → a ≡ b → a.outcome ≡ 0 → shell_text t b ≡ new_text t a.first a.second
unfolding shell_text
shell_done t a b is e = ap (shell_text t) (sym is) ∙ answer_done a _ e

-- a text that is another by its definition
pub text_as : {xs ys : List ℕ} → ys ≡ xs → (text text' : List ℕ) (r : ℕ) → (text' ≡ sets text 0 xs) × (r ≡ length xs) → (text' ≡ sets text 0 ys) × (r ≡ length ys)
text_as e text text' r p = rw e p

module _ (t : FaceTask) (vs s : List ℕ) (a : Answer) (is : a ≡ face_answer t vs s) where
  pub face_refused : (a.outcome ≡ 0 → ⊥) → face_text (face_answer t vs s) (face_wires t vs s) ≡ refused_text a.outcome a.number a.first a.second
  unfolding face_text
  face_refused e = rw (← is) (answer_refused a (done_text (face_wires t vs s)) e)

  pub face_done : a.outcome ≡ 0 → {ws : List (List ℕ)} → ws ≡ face_wires t vs s → face_text (face_answer t vs s) (face_wires t vs s) ≡ done_text ws
  unfolding face_text
  face_done e p = rw (← is, p) (answer_done a (done_text (face_wires t vs s)) e)
