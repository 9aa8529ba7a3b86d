use Rattle.scheduler_state.proofs.Laws.{slot_read}
use Rattle.scheduler_state.proofs.slot_in.Goals as goal

pub returns : goal.returns
returns c = let a = c.args in
    slot_read a.numbers a.at c.six_in.ensures c.six_in-2.ensures c.six_in-3.ensures
    c.waiting_in-waiting.ensures c.waiting_in-job.ensures c.answer_in-answer.ensures c.held_of.ensures
