-- What stands at the place of p is the answer, and 65,535 stands there after.
use mathlib.Core.Path.{refl}
use Rattle.openings.proofs.Slots.{finds_nothing, finds_use, slots_set}
use Rattle.openings.proofs.look_up.Goals as goal

pub returns-then-u-clause-answer_value : goal.returns-then-u-clause-answer_value
returns-then-u-clause-answer_value c = finds_nothing c.args.kept.now c.args.p c.requires.p_in_bounds c.if-u.true

pub returns-then-u-clause-kept_after : goal.returns-then-u-clause-kept_after
returns-then-u-clause-kept_after c = slots_set c.args.kept.now c.args.p 65535

pub returns-then-u-clause-lookups_value : goal.returns-then-u-clause-lookups_value
returns-then-u-clause-lookups_value c = refl

pub returns-then-u-clause-kept_after_2 : goal.returns-then-u-clause-kept_after_2
returns-then-u-clause-kept_after_2 c = refl

pub returns-clause-answer_value : goal.returns-clause-answer_value
returns-clause-answer_value c = finds_use c.args.kept.now c.args.p c.requires.p_in_bounds c.if-u.false

pub returns-clause-kept_after : goal.returns-clause-kept_after
returns-clause-kept_after c = slots_set c.args.kept.now c.args.p 65535

pub returns-clause-lookups_value : goal.returns-clause-lookups_value
returns-clause-lookups_value c = refl

pub returns-clause-kept_after_2 : goal.returns-clause-kept_after_2
returns-clause-kept_after_2 c = refl
