-- Three fields and the line feed, one after the other; each number has at most 20 digits.
use Prim.Native.Nat.{◌≤◌}
use mathlib.Core.List.{◌++◌}
use native.Mathlib.Omega.{arith}
use lib.ListN.{length}
use Rattle.lists.proofs.Sets.{put_then}
use Rattle.output.proofs.Laws.{decimal_20, line_is}
use Rattle.output.specs.Text.{ascii, decimal, field}
use Rattle.output.proofs.put_refusal.Goals as goal

pub put_field-at-requires : goal.put_field-at-requires
put_field-at-requires c = let short : (length (decimal c.number-n.result) ≤ 20) × (length (decimal c.body-b.result) ≤ 20) × (length (decimal c.record-k.result) ≤ 20) = (decimal_20 _ (omega arith), decimal_20 _ (omega arith), decimal_20 _ (omega arith)) in
    let s = short in omega arith

pub put_field-at-requires-2 : goal.put_field-at-requires-2
put_field-at-requires-2 c = let short : (length (decimal c.number-n.result) ≤ 20) × (length (decimal c.body-b.result) ≤ 20) × (length (decimal c.record-k.result) ≤ 20) = (decimal_20 _ (omega arith), decimal_20 _ (omega arith), decimal_20 _ (omega arith)) in
    let s = short in omega arith

pub put_field-at-requires-3 : goal.put_field-at-requires-3
put_field-at-requires-3 c = let short : (length (decimal c.number-n.result) ≤ 20) × (length (decimal c.body-b.result) ≤ 20) × (length (decimal c.record-k.result) ≤ 20) = (decimal_20 _ (omega arith), decimal_20 _ (omega arith), decimal_20 _ (omega arith)) in
    let s = short in omega arith

pub put_text-requires : goal.put_text-requires
put_text-requires c = let short : (length (decimal c.number-n.result) ≤ 20) × (length (decimal c.body-b.result) ≤ 20) × (length (decimal c.record-k.result) ≤ 20) = (decimal_20 _ (omega arith), decimal_20 _ (omega arith), decimal_20 _ (omega arith)) in
    let s = short in omega arith

pub returns : goal.returns
unfolding field
returns c = let short : (length (decimal c.number-n.result) ≤ 20) × (length (decimal c.body-b.result) ≤ 20) × (length (decimal c.record-k.result) ≤ 20) = (decimal_20 _ (omega arith), decimal_20 _ (omega arith), decimal_20 _ (omega arith)) in
    let s = short in
    let out = c.args.out.now in
    let n = c.number-n in
    let b = c.body-b in
    let k = c.record-k in
    let x = field "refused " n.result in
    let y = field " body " b.result in
    let z = field " record " k.result in
    let p2 = put_then out 0 x y _ _ _ _ c.put_field-at.ensures c.put_field-at-2.ensures in
    let p3 = put_then out 0 (x ++ y) z _ _ _ _ p2 c.put_field-at-3.ensures in
    let p4 = put_then out 0 (x ++ y ++ z) (ascii "\n") _ _ _ _ p3 c.put_text.ensures in
    rw (← line_is c.args.f n.result b.result k.result n.ensures b.ensures k.ensures)
    (p4.0, omega (arith, p4.1), omega arith)
