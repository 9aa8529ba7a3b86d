-- Two fields and the line feed, one after the other; each number has at most 20 digits.
use Prim.Native.Nat.{◌≤◌}
use mathlib.Core.List.{◌++◌}
use native.Mathlib.Omega.{arith}
use lib.ListN.{length}
use Rattle.lists.proofs.Sets.{put_then}
use Rattle.output.proofs.Laws.{decimal_20}
use Rattle.output.specs.Text.{ascii, decimal, field}
use Rattle.mesh_answers.specs.ImportLines.{line_refusal}
use Rattle.mesh_answers.proofs.put_line.Goals as goal
use Rattle.mesh_answers.proofs.put_line.Goals.{After-number}

short : (c : After-number) → (length (decimal c.number.result) ≤ 20) × (length (decimal c.args.n) ≤ 20)
short c = (decimal_20 _ (omega arith), decimal_20 _ (omega arith))

pub put_field-at-requires : goal.put_field-at-requires
put_field-at-requires c = let s = short (goal.at.put_field-at-requires c).After-number in omega arith

pub put_field-at-requires-2 : goal.put_field-at-requires-2
put_field-at-requires-2 c = let s = short (goal.at.put_field-at-requires-2 c).After-number in omega arith

pub put_text-requires : goal.put_text-requires
put_text-requires c = let s = short (goal.at.put_text-requires c).After-number in omega arith

pub returns : goal.returns
unfolding field line_refusal
returns c = let args = c.args in
    let s = short (goal.at.returns c).After-number in
    let x = field "refused " c.number.result in
    let y = field " line " args.n in
    let p2 = put_then args.out.now 0 x y _ _ _ _ c.put_field-at.ensures c.put_field-at-2.ensures in
    let p3 = put_then args.out.now 0 (x ++ y) (ascii "\n") _ _ _ _ p2 c.put_text.ensures in
    rw (← c.number.ensures) (p3.0, omega (arith, p3.1), omega arith)
