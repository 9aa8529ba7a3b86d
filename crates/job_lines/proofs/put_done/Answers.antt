-- The word, the wires and the line feed; the wires have at most 49,152 bytes.
use mathlib.Core.List.{◌++◌}
use native.Mathlib.Omega.{arith}
use Rattle.answer_lines.proofs.Bounds.{wires_short}
use Rattle.answer_lines.specs.AnswerLines.{wires_text}
use Rattle.lists.proofs.Sets.{put_then}
use Rattle.lists.specs.Lists.{split}
use Rattle.output.specs.Text.{ascii}
use Rattle.job_lines.specs.JobLines.{done_text}
use borrow.Author.Rules.{rules}
use Rattle.job_lines.proofs.put_done.Goals as goal

pub put_wires-at-requires : goal.put_wires-at-requires
put_wires-at-requires c = let args = c.args in
    (search rules, omega (arith, wires_short args.lens.now args.uses.now))

pub put_text-requires : goal.put_text-requires
put_text-requires c = let args = c.args in
    omega (arith, wires_short args.lens.now args.uses.now)

pub returns : goal.returns
unfolding done_text
returns c = let args = c.args in
    let ws = wires_text (split _ _) in
    let p = put_then args.text.now 0 (ascii "done") ws _ _ _ _ c.put_text-at.ensures c.put_wires-at.ensures in
    let q = put_then args.text.now 0 (ascii "done" ++ ws) (ascii "\n") _ _ _ _ p c.put_text.ensures in
    (q.0, omega (arith, q.1))
