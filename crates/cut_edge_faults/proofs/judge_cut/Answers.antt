-- What the two loops find, judged.
use Rattle.cut_edge_faults.proofs.judge_cut.Goals as goal

pub returns : goal.returns
returns c = rw (c.meets_vertex-met.ensures, c.count_cuts-cuts.ensures.0) at c.judge.ensures
