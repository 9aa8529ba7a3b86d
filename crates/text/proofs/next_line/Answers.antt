-- No line, or where it ends and the rest begins.
use mathlib.Core.Path.{sym}
use native.Mathlib.Omega.{arith}
use borrow.Author.Tests.{eqb-false, eqb-true}
use Rattle.text.proofs.Words.{lines_nil, next_lines, rest_is}
use Rattle.text.proofs.next_line.Goals as goal

pub returns-then-is_empty : goal.returns-then-is_empty
returns-then-is_empty c = lines_nil _ (eqb-true _ 0 (sym c.if-is_empty.ensures))

pub returns : goal.returns
returns c =
    let text = c.args.text.now in
    let some = eqb-false _ 0 (sym c.if-is_empty.ensures) in
    rw (rest_is c.min-next.result text) (next_lines text c.line_end-end.result _ (omega (arith, some)) (omega (arith, c.line_end-end.ensures.0)) c.min-next.ensures _ c.trimmed.ensures)
