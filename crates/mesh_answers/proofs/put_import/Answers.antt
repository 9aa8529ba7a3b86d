use mathlib.Core.Path.{◌≡◌}
use native.Mathlib.Omega.{arith}
use Rattle.output.specs.Text.{ascii}
use Rattle.mesh_answers.specs.ImportLines.{import_line}
use Rattle.mesh_answers.proofs.put_import.Goals as goal

pub returns-in-Err-Refused-NoSpace : goal.returns-in-Err-Refused-NoSpace
returns-in-Err-Refused-NoSpace c =
    let x = c.in-Err-Refused-NoSpace in
    let e : import_line c.args.a ≡ ascii "refused 17\n" = rw (x.is, rw x.is at x.field-0-is, rw (x.is, rw x.is at x.field-0-is) at x.field-0-0-is) in
    rw e (c.put_text.ensures.0, c.put_text.ensures.1, omega arith)
