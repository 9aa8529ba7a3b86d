-- The bytes passed are no blanks.
use Rattle.text.proofs.Words.{Scan}
use Rattle.text.specs.Text.{is_blank}
use Rattle.text.proofs.word_end.Given as goal

abbrev pub invariant-loop-i : goal.invariant-loop-i
invariant-loop-i l = Scan is_blank l.line l.from l.i
