-- A byte order mark before a job.
use Prim.Native.Nat.{ℕ}
use mathlib.Core.Bool.{Bool, false, true}
use mathlib.Core.List.{List}
use mathlib.Core.Path.{◌≡◌}
use Rattle.job_lines.specs.JobLines.{no_job}
use Rattle.output.specs.Text.{ascii}
use Rattle.jobs.specs.Jobs.{has_mark, unnamed_text}

module _ (l : List ℕ) where
  pub unnamed_marked : (b : Bool) → b ≡ has_mark l → b ≡ true → unnamed_text l ≡ ascii "no job: begins with a byte order mark: save the jobs as UTF-8 without one\n"
  unfolding unnamed_text
  unnamed_marked b p e = rw (← p, e)

  pub unnamed_other : (b : Bool) → b ≡ has_mark l → b ≡ false → unnamed_text l ≡ ascii "no job: begin with cut, remove, concat, point, add, cutface or glue\n"
  unfolding unnamed_text no_job
  unnamed_other b p e = rw (← p, e)
