-- Each test is one of the definition's, in sequence.
use native.Mathlib.Omega.{arith}
use Rattle.glue_wires.proofs.Judging.{all_written, none_left_22, places_17, rule_28, space_17}
use Rattle.glue_wires.proofs.judge_wires.Goals as goal

pub returns-then-parts-eq0 : goal.returns-then-parts-eq0
returns-then-parts-eq0 c = λ p ws col eo ep. none_left_22 p ws _ _ _ _ _ _ col eo ep c.if-parts-eq0.true

pub returns-then-breaks_rule : goal.returns-then-breaks_rule
returns-then-breaks_rule c = λ p ws col eo ep. rule_28 p ws _ _ _ _ _ _ col eo ep c.if-parts-eq0.false _ c.breaks_rule.ensures c.if-breaks_rule.true

pub returns-then-uses-n : goal.returns-then-uses-n
returns-then-uses-n c = λ p ws col eo ep. space_17 p ws _ _ _ _ _ _ col eo ep c.if-parts-eq0.false _ c.breaks_rule.ensures c.if-breaks_rule.false c.if-uses-n.true

pub returns-then-lens-parts : goal.returns-then-lens-parts
returns-then-lens-parts c = λ p ws col eo ep. places_17 p ws _ _ _ _ _ _ col eo ep c.if-parts-eq0.false _ c.breaks_rule.ensures c.if-breaks_rule.false c.if-lens-parts.true

pub copy_to-requires : goal.copy_to-requires
copy_to-requires c = omega (arith, c.if-uses-n.false)

pub copy_to-requires-2 : goal.copy_to-requires-2
copy_to-requires-2 c = omega (arith, c.if-lens-parts.false)

pub returns : goal.returns
returns c = λ p ws col eo ep. all_written p ws _ _ _ _ _ _ col eo ep c.if-parts-eq0.false _ c.breaks_rule.ensures c.if-breaks_rule.false (omega (arith, c.if-uses-n.false)) (omega (arith, c.if-lens-parts.false)) _ _ c.copy_to.ensures c.copy_to-2.ensures
