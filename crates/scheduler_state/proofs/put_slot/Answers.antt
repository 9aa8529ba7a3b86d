use Rattle.scheduler_state.proofs.Laws.{slot_put}
use Rattle.scheduler_state.proofs.put_slot.Goals as goal

pub returns : goal.returns
returns c = let s = c.args in
    slot_put s.slot s.at c.put_six-third.ensures c.put_six-second.ensures c.put_six.ensures
    c.waiting_numbers-2.ensures c.waiting_numbers.ensures c.answer_numbers.ensures c.parts_of-job.ensures
