-- The answer, and whether the queue goes on.
use lib.ListN.{take}
use Rattle.queue.proofs.Texts.{goes_on, stops, told, told_done}
use Rattle.queue.specs.Queue.{answer_text, is_done}
use borrow.Author.Rules.{rules}
use Rattle.queue.proofs.finish.Goals as goal

pub returns-then-stop-clause-answer_after : goal.returns-then-stop-clause-answer_after
returns-then-stop-clause-answer_after c = let args = c.args in
    let least = c.min-m.ensures in
    let put = c.put_answer-length.ensures in
    told _ args.text.now _ _ (search rules) least args.answer.now _ _ put

pub returns-then-stop-clause-stopped_value : goal.returns-then-stop-clause-stopped_value
returns-then-stop-clause-stopped_value c = let args = c.args in
    let least = c.min-m.ensures in
    let put = c.put_answer-length.ensures in
    stops _ _ c.if-stop.true (told_done _ args.text.now _ _ (search rules) least args.answer.now _ _ put _ c.is_done-done.ensures)

pub returns-else-stop-clause-answer_after : goal.returns-else-stop-clause-answer_after
returns-else-stop-clause-answer_after c = let args = c.args in
    told _ args.text.now _ _ (search rules) c.min-m.ensures args.answer.now _ _ c.put_answer-length.ensures

pub returns-else-stop-clause-stopped_value : goal.returns-else-stop-clause-stopped_value
returns-else-stop-clause-stopped_value c = let args = c.args in
    goes_on _ (is_done (answer_text args.ending (take args.n args.text.now))) c.if-stop.false
