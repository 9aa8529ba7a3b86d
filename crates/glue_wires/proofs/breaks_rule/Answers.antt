-- The check of one face is the face rule of its wires.
use lib.ListN.{length}
use Rattle.glue_wires.proofs.Judging.{one_sum, rule_judged}
use Rattle.glue_wires.proofs.breaks_rule.Goals as goal

pub check_faces-requires-clause-counts_value : goal.check_faces-requires-clause-counts_value
check_faces-requires-clause-counts_value c = (one_sum (length c.args.parts.now), c.requires.0)

pub returns : goal.returns
returns c = rule_judged _ _ _ _ _ c.check_faces.ensures _ c.is_err.ensures.value
