-- After n turns the lines of n shells are written.
use Rattle.report_text.proofs.Texts.{Writing}
use Rattle.report_text.proofs.columns_text.Given as goal

abbrev pub invariant-loop-n : goal.invariant-loop-n
invariant-loop-n l = Writing l.columns.t.now l.shells l.initial.out l.out l.solid l.at l.n
