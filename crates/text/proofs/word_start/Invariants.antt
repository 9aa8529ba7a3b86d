-- The bytes passed are blanks.
use Rattle.text.proofs.Words.{Scan}
use Rattle.text.specs.Text.{is_ink}
use Rattle.text.proofs.word_start.Given as goal

abbrev pub invariant-loop-i : goal.invariant-loop-i
invariant-loop-i l = Scan is_ink l.line l.from l.i
