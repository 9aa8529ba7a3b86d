-- The longer names.
use native.Mathlib.Omega.{arith}
use borrow.Author.Rules.{rules}
use Rattle.std.proofs.lemmas.Slice.Eq.{text_from_reads}
use Rattle.output.specs.Text.{ascii}
use Rattle.job_lines.specs.JobLines.{job_named}
use Rattle.job_lines.proofs.job_named.Goals as goal

pub returns-in-remove : goal.returns-in-remove
unfolding job_named
returns-in-remove c = rw (text_from_reads c.args.name.now (ascii "remove") (omega arith) (search rules))

pub returns-in-concat : goal.returns-in-concat
unfolding job_named
returns-in-concat c = rw (text_from_reads c.args.name.now (ascii "concat") (omega arith) (search rules))

pub returns-in-cutface : goal.returns-in-cutface
unfolding job_named
returns-in-cutface c = rw (text_from_reads c.args.name.now (ascii "cutface") (omega arith) (search rules))
