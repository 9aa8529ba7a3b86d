-- Refused by the checks, or as the file of a pattern without fault is written.
use mathlib.Core.List.{[]}
use mathlib.Core.Path.{◌≡◌, ◌∙◌, sym}
use Rattle.errors.proofs.Laws.{handed_on, accepted_none}
use Rattle.pattern.specs.Checks.{pattern_faults}
use Rattle.pattern.specs.Contents.{content}
use Rattle.pattern_file.specs.File.{file_bytes}
use Rattle.store.specs.Store.{held}
use Rattle.store_write.proofs.Laws.{write_refused}
use Rattle.store_write.proofs.write.Goals as goal
use Rattle.store_write.proofs.write.Goals.{In_ok-check}

none : (c : In_ok-check) → pattern_faults (held c.args.t.now c.args.spans.now) ≡ []
none c = accepted_none (pattern_faults _) (sym c.check.ensures ∙ c.in_ok-check.was)

pub put_file-requires : goal.put_file-requires
put_file-requires c = none (goal.at.put_file-requires c).In_ok-check

pub returns-in_err-check : goal.returns-in_err-check
returns-in_err-check c =
    let refused = write_refused (file_bytes (content (held c.args.t.now c.args.spans.now))) c.args.out.now (pattern_faults _) _ (sym c.check.ensures ∙ c.in_err-check.was) in
    (handed_on _ _ c.from_residual.ensures.1 ∙ refused.0, refused.1)

pub returns : goal.returns
returns c = rw (none (goal.at.returns c).In_ok-check) c.put_file.ensures
