-- Nothing, the line of a fault with its number, or the line that says what is wrong with the whole text.
use mathlib.Core.List.{◌++◌}
use native.Mathlib.Omega.{arith}
use Rattle.draft_faults.proofs.Laws.{error_is, none_is, put_short}
use Rattle.draft_faults.specs.FaultLines.{fault_text}
use Rattle.lists.proofs.Sets.{put_then}
use Rattle.output.proofs.Laws.{decimal_20}
use Rattle.output.specs.Text.{ascii, decimal, field}
use Rattle.draft_faults.proofs.put_made.Goals as goal

pub put_field-at-requires : goal.put_field-at-requires
put_field-at-requires c = omega (arith, decimal_20 c.in-At.line (omega arith))

pub put_fault-requires : goal.put_fault-requires
put_fault-requires c = omega (arith, decimal_20 c.in-At.line (omega arith), c.put_field-at.auto)

pub returns-in_default : goal.returns-in_default
returns-in_default c = let e = none_is _ _ c.in_default.is in
    (e.0, e.1, omega arith)

pub returns-in-TooLong : goal.returns-in-TooLong
returns-in-TooLong c = let p = put_short _ 0 256 _ _ (error_is c.in-Err.is c.in-TooLong.is) c.put_text.ensures (omega arith) in
    (p.0, omega (arith, p.1), omega (arith, p.2))

pub returns-in-Marked : goal.returns-in-Marked
returns-in-Marked c = let p = put_short _ 0 256 _ _ (error_is c.in-Err.is c.in-Marked.is) c.put_text-in-Marked.ensures (omega arith) in
    (p.0, omega (arith, p.1), omega (arith, p.2))

pub returns-in-Nothing : goal.returns-in-Nothing
returns-in-Nothing c = let p = put_short _ 0 256 _ _ (error_is c.in-Err.is c.in-Nothing.is) c.put_text-in-Nothing.ensures (omega arith) in
    (p.0, omega (arith, p.1), omega (arith, p.2))

pub returns-in-NotEmpty : goal.returns-in-NotEmpty
returns-in-NotEmpty c = let p = put_short _ 0 256 _ _ (error_is c.in-Err.is c.in-NotEmpty.is) c.put_text-in-NotEmpty.ensures (omega arith) in
    (p.0, omega (arith, p.1), omega (arith, p.2))

pub returns-in-At : goal.returns-in-At
unfolding field
returns-in-At c = let args = c.args in
    let x = ascii "line " ++ decimal c.in-At.line in
    let q = put_then args.out.now 0 x (fault_text c.in-At.f) _ _ _ _ c.put_field-at.ensures (c.put_fault.ensures.0, c.put_fault.ensures.1) in
    let p = put_short args.out.now 0 256 _ _ (error_is c.in-Err.is c.in-At.is) q (omega (arith, q.1, c.put_fault.ensures.2, decimal_20 c.in-At.line (omega arith))) in
    (p.0, omega (arith, p.1), omega (arith, p.2))
