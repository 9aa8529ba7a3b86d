use Rattle.std.specs.Prelude.{Err, Ok}
use mathlib.Core.Path.{◌∙◌, ◌≡◌, refl, sym}
use Rattle.errors.specs.Faults.{first}
use Rattle.pattern_file.specs.File.{table_faults}
use Rattle.answers.proofs.on_file.Goals as goal

pub returns-in-Err : goal.returns-in-Err
returns-in-Err g c =
    let wrong : first (table_faults c.args.file.now) ≡ Err _ = sym c.load.ensures.value ∙ c.in-Err.is in
    record { done = rw wrong (c.unread.ensures, refl) }

pub returns-in-Ok : goal.returns-in-Ok
returns-in-Ok g c =
    let right : first (table_faults c.args.file.now) ≡ Ok tt = sym c.load.ensures.value ∙ c.in-Ok.is in
    record { done = rw right (record { tables = _; spans = _; holds = c.load.ensures.spans_after; gives = _; left = _; called = c.call.ensures; told = c.call_values.ensures }) }
