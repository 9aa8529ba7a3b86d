-- After len-index turns the lines of as many parts are written.
use Rattle.lines.proofs.Loops.{Lining}
use Rattle.lines.specs.Parts.{word_line}
use Rattle.lines.proofs.put_lines.Given as goal

abbrev pub invariant-loop-len : goal.invariant-loop-len
invariant-loop-len l = Lining (word_line l.word) l.initial.out l.at l.items l.lens l.out l.end l.start l.len-index
