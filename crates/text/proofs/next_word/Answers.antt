-- Where the word begins and ends; the rest as the code takes it.
use native.Mathlib.Omega.{arith}
use lib.ListN.{length-drop}
use Rattle.text.proofs.Words.{rest_is, word_at, word_none}
use Rattle.text.proofs.next_word.Goals as goal

pub returns-then-start-line : goal.returns-then-start-line
returns-then-start-line c = word_none _ 0 _ c.word_start-start.ensures.0 c.if-start-line.true

pub returns : goal.returns
returns c =
    let line = c.args.line.now in
    let end = c.word_end-end.result in
    let w = word_at line 0 _ c.word_start-start.ensures.0 end (omega arith) c.word_end-end.ensures.0 in
    rw (rest_is end line) (w.0, omega (arith, w.1, length-drop end line))
