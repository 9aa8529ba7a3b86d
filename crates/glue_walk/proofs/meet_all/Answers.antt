use native.Mathlib.Omega.{arith}
use mathlib.Core.Path.{◌∙◌}
use Rattle.glue_walk.proofs.Meeting.{left_all, left_stop, meeting_all, meeting_fits, meeting_next, meeting_start, meeting_stop}
use Rattle.glue_walk.proofs.meet_all.Goals as goal

pub loop-u-init : goal.loop-u-init
loop-u-init c = meeting_start _ _ _ _ c.requires.part_fits c.requires.holding

pub meet_use-requires-clause-end_columns : goal.meet_use-requires-clause-end_columns
meet_use-requires-clause-end_columns c = c.requires.part_fits.ends

pub meet_use-requires-clause-fits : goal.meet_use-requires-clause-fits
meet_use-requires-clause-fits c = meeting_fits _ _ _ _ c.requires.part_fits _ _ c.loop-u.invariant c.loop-u-test.true

pub meet_use-requires-clause-holding : goal.meet_use-requires-clause-holding
meet_use-requires-clause-holding c = c.loop-u.invariant.holding

pub shape_of-kept-then-not-meet_use : goal.shape_of-kept-then-not-meet_use
shape_of-kept-then-not-meet_use c = c.meet_use.auto.kept ∙ c.loop-u.invariant.long

pub returns-then-not-meet_use-clause-kept_value : goal.returns-then-not-meet_use-clause-kept_value
returns-then-not-meet_use-clause-kept_value c = let fit = c.requires.part_fits in
    let inv = c.loop-u.invariant in
    let less = c.loop-u-test.true in
    let no = c.if-not-meet_use.true in
    meeting_stop _ _ _ _ fit _ _ inv less _ c.meet_use.ensures.holding_2 c.meet_use.result c.meet_use.ensures.kept_value no

pub returns-then-not-meet_use-clause-holding_2 : goal.returns-then-not-meet_use-clause-holding_2
returns-then-not-meet_use-clause-holding_2 c = let fit = c.requires.part_fits in
    let inv = c.loop-u.invariant in
    let less = c.loop-u-test.true in
    let no = c.if-not-meet_use.true in
    c.meet_use.ensures.holding_2

pub returns-then-not-meet_use-clause-kept_after : goal.returns-then-not-meet_use-clause-kept_after
returns-then-not-meet_use-clause-kept_after c = let fit = c.requires.part_fits in
    let inv = c.loop-u.invariant in
    let less = c.loop-u-test.true in
    let no = c.if-not-meet_use.true in
    left_stop _ _ _ _ fit _ _ inv less _ c.meet_use.ensures.holding_2 c.meet_use.result c.meet_use.ensures.kept_value no (c.meet_use.ensures.kept_unchanged no)

pub loop-u-preserved : goal.loop-u-preserved
loop-u-preserved c = meeting_next _ _ _ _ c.requires.part_fits _ _ c.loop-u.invariant c.loop-u-test.true _ c.meet_use.ensures.holding_2 c.meet_use.result c.meet_use.ensures.kept_value (c.if-not-meet_use.false) c.meet_use.auto.kept

pub shape_of-kept : goal.shape_of-kept
shape_of-kept c = c.loop-u.invariant.long

pub returns-clause-kept_value : goal.returns-clause-kept_value
returns-clause-kept_value c = let fit = c.requires.part_fits in
    let inv = c.loop-u.invariant in
    meeting_all _ _ _ _ fit _ _ inv (omega arith)

pub returns-clause-holding_2 : goal.returns-clause-holding_2
returns-clause-holding_2 c = let fit = c.requires.part_fits in
    let inv = c.loop-u.invariant in
    inv.holding

pub returns-clause-kept_after : goal.returns-clause-kept_after
returns-clause-kept_after c = let fit = c.requires.part_fits in
    let inv = c.loop-u.invariant in
    left_all _ _ _ _ fit _ _ inv (omega arith)
