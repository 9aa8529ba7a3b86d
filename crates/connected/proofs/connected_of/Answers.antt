-- The array holds the first points of the wires; the answer by these links is the one of the definition.
use Rattle.connected.proofs.Answer.{firsts_taken, wired_answer, wired_fronts, wired_linkable}
use Rattle.connected.proofs.connected_of.Goals as goal

pub firsts_of-firsts-requires : goal.firsts_of-firsts-requires
firsts_of-firsts-requires c = let pre = c.requires in (pre.cut, wired_fronts pre)

pub linked-requires : goal.linked-requires
linked-requires c = let pre = c.requires in
    wired_linkable pre (firsts_taken pre c.firsts_of-firsts.ensures)

pub returns : goal.returns
returns c = let pre = c.requires in
    wired_answer pre (firsts_taken pre c.firsts_of-firsts.ensures) c.linked.ensures
