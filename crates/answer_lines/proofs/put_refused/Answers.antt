-- One line of three numbers, or of one; each number has at most 20 digits.
use Prim.Native.Nat.{◌≤◌}
use mathlib.Core.List.{◌++◌}
use native.Mathlib.Omega.{arith}
use lib.ListN.{length}
use Rattle.lists.proofs.Sets.{put_then}
use Rattle.lines.proofs.Bounds.{number_short}
use Rattle.lines.specs.Parts.{word_number}
use Rattle.output.proofs.Laws.{decimal_20}
use Rattle.output.specs.Text.{ascii, decimal}
use Rattle.answer_lines.proofs.Bounds.{placed_is, plain_is, put_front}
use Rattle.answer_lines.proofs.put_refused.Goals as goal
use Rattle.answer_lines.proofs.put_refused.Goals.{Start}

short : (c : Start) → (length (decimal c.args.number) ≤ 20) × (length (decimal c.args.body) ≤ 20) × (length (decimal c.args.place) ≤ 20)
short c =
    (decimal_20 _ (omega arith), decimal_20 _ (omega arith), decimal_20 _ (omega arith))

pub put_field-at-requires : goal.put_field-at-requires
put_field-at-requires c =
    let s = (short (goal.at.put_field-at-requires c).Start) in omega arith

pub put_field-at-requires-then-outcome-eq1 : goal.put_field-at-requires-then-outcome-eq1
put_field-at-requires-then-outcome-eq1 c =
    let s = (short (goal.at.put_field-at-requires-then-outcome-eq1 c).Start) in omega arith

pub put_number-requires : goal.put_number-requires
put_number-requires c =
    let s = (short (goal.at.put_number-requires c).Start) in omega (arith, number_short (ascii " record ") 20 _ s.2)

pub returns-then-outcome-eq1 : goal.returns-then-outcome-eq1
returns-then-outcome-eq1 c =
    let s = (short (goal.at.returns-then-outcome-eq1 c).Start) in
    let x = ascii "refused " ++ decimal c.args.number in
    let y = ascii " body " ++ decimal c.args.body in
    let p = put_then c.args.out.now 0 x y _ _ _ _ c.put_field-at.ensures c.put_field-at-then-outcome-eq1.ensures in
    let q = put_then c.args.out.now 0 (x ++ y) (word_number (ascii " record ") c.args.place) _ _ _ _ p c.put_number.ensures in
    let e = put_front c.args.out.now _ _ (placed_is c.args.outcome c.args.number c.args.body c.args.place c.if-outcome-eq1.true) q in
    (e.0, e.1, omega (arith, number_short (ascii " record ") 20 _ s.2))

pub put_number-requires-2 : goal.put_number-requires-2
put_number-requires-2 c =
    let s = (short (goal.at.put_number-requires-2 c).Start) in omega (arith, number_short (ascii "refused ") 20 _ s.0)

pub returns : goal.returns
returns c =
    let s = (short (goal.at.returns c).Start) in
    let e = put_front c.args.out.now _ _ (plain_is c.args.outcome c.args.number c.args.body c.args.place c.if-outcome-eq1.false) c.put_number-2.ensures in
    (e.0, e.1, omega (arith, number_short (ascii "refused ") 20 _ s.0))
