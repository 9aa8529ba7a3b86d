-- The text, or four parts of it one after the other.
use Rattle.std.specs.Prelude.{Option}
use Prim.Native.Nat.{ℕ}
use mathlib.Core.List.{List, ◌++◌}
use mathlib.Core.Path.{◌∙◌, ap, sym}
use native.Mathlib.Omega.{arith}
use Rattle.answer_lines.proofs.Bounds.{put_front}
use Rattle.job_lines.proofs.Answers.{no_name, no_word}
use Rattle.job_lines.specs.JobLines.{no_job}
use Rattle.job_lines.specs.declared.Task.{Task}
use Rattle.lists.proofs.Sets.{put_then}
use Rattle.output.proofs.Laws.{decimal_20}
use Rattle.output.specs.Text.{ascii, decimal}
use Rattle.job_lines.proofs.put_no_job.Goals as goal

pub returns-in_default : goal.returns-in_default
returns-in_default c = put_front _ _ _ (ap (λ (o : Option Task). no_job o c.args.n) c.in_default.is ∙ no_name _) c.put_text.ensures

pub put_field-at-requires : goal.put_field-at-requires
put_field-at-requires c = omega (arith, decimal_20 c.args.n (omega arith))

pub put_text-at-requires : goal.put_text-at-requires
put_text-at-requires c = omega (arith, decimal_20 c.args.n (omega arith))

pub put_text-at-requires-2 : goal.put_text-at-requires-2
put_text-at-requires-2 c = omega (arith, decimal_20 c.args.n (omega arith), c.form_of.ensures.1)

pub put_text-requires-2 : goal.put_text-requires-2
put_text-requires-2 c = omega (arith, decimal_20 c.args.n (omega arith), c.form_of.ensures.1)

pub returns : goal.returns
returns c = let args = c.args in
    let x = ascii "no job: word " ++ decimal _ in
    let form = c.form_of.result.now in
    let p = put_then args.text.now 0 x (ascii " of ") _ _ _ _ c.put_field-at.ensures c.put_text-at.ensures in
    let q = put_then args.text.now 0 (x ++ ascii " of ") form _ _ _ _ p c.put_text-at-2.ensures in
    let r = put_then args.text.now 0 (x ++ ascii " of " ++ form) (ascii "\n") _ _ _ _ q c.put_text-2.ensures in
    put_front args.text.now _ _ (ap (λ (o : Option Task). no_job o args.n) c.in-Some.is ∙ no_word _ _ ∙ ap (λ (t : List ℕ). x ++ ascii " of " ++ t ++ ascii "\n") (sym c.form_of.ensures.0)) r
