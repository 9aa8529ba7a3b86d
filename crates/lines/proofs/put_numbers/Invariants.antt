-- After point-index turns the lines of as many numbers are written.
use Rattle.lines.proofs.Loops.{Putting}
use Rattle.lines.specs.Parts.{word_number}
use Rattle.lines.proofs.put_numbers.Given as goal

abbrev pub invariant-loop-point : goal.invariant-loop-point
invariant-loop-point l = Putting (word_number l.word) l.initial.out l.at l.points l.out l.end l.point-index
