-- After len-index turns as many wires are written.
use Rattle.lines.proofs.Loops.{Lining}
use Rattle.answer_lines.specs.AnswerLines.{wire_text}
use Rattle.answer_lines.proofs.put_wires.Given as goal

abbrev pub invariant-loop-len : goal.invariant-loop-len
invariant-loop-len l = Lining wire_text l.initial.out l.at l.us l.lens l.out l.end l.start l.len-index
