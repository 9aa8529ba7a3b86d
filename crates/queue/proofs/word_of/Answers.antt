-- The longer options.
use native.Mathlib.Omega.{arith}
use borrow.Author.Rules.{rules}
use Rattle.std.proofs.lemmas.Slice.Eq.{text_from_reads}
use Rattle.output.specs.Text.{ascii}
use Rattle.queue.specs.Command.{word_of}
use Rattle.queue.proofs.word_of.Goals as goal

pub returns-in-45 : goal.returns-in-45
unfolding word_of
returns-in-45 c = rw (text_from_reads c.args.word.now (ascii "--stop") (omega arith) (search rules))

pub returns-in-45-3-2 : goal.returns-in-45-3-2
unfolding word_of
returns-in-45-3-2 c = rw (text_from_reads c.args.word.now (ascii "--help") (omega arith) (search rules))
