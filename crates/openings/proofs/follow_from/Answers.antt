use mathlib.Core.Path.{◌∙◌, refl}
use native.Mathlib.Omega.{arith}
use Rattle.openings.proofs.Follow.{edge_at_lem, end, going_long, going_start, less_at, next_at, room_at}
use Rattle.openings.proofs.follow_from.Goals as goal

pub loop-u-init : goal.loop-u-init
loop-u-init c = let pre = c.requires in going_start _ _ _ _ _ _ _ pre.0 pre.1

pub look_up-l-requires-clause-p_in_bounds : goal.look_up-l-requires-clause-p_in_bounds
look_up-l-requires-clause-p_in_bounds c = c.loop-u.invariant.inside

pub look_up-l-requires-clause-lookups_bound : goal.look_up-l-requires-clause-lookups_bound
look_up-l-requires-clause-lookups_bound c = omega (arith, c.loop-u.invariant.asked, c.loop-u.invariant.all, c.requires.3)

pub offset_bounds-out-m : goal.offset_bounds-out-m
offset_bounds-out-m c = let h = room_at _ _ _ _ _ _ _ _ _ _ _ _ c.loop-u.invariant _ _ _ c.look_up-l.ensures.answer_value c.look_up-l.ensures.kept_after_2 c.look_up-l.ensures.lookups_value c.in-Some.u c.in-Some.is c.requires.2 in
    omega (arith, h)

pub bounds-out-m : goal.bounds-out-m
bounds-out-m c = room_at _ _ _ _ _ _ _ _ _ _ _ _ c.loop-u.invariant _ _ _ c.look_up-l.ensures.answer_value c.look_up-l.ensures.kept_after_2 c.look_up-l.ensures.lookups_value c.in-Some.u c.in-Some.is c.requires.2

pub overflow_add-m : goal.overflow_add-m
overflow_add-m c = let h = room_at _ _ _ _ _ _ _ _ _ _ _ _ c.loop-u.invariant _ _ _ c.look_up-l.ensures.answer_value c.look_up-l.ensures.kept_after_2 c.look_up-l.ensures.lookups_value c.in-Some.u c.in-Some.is c.requires.2 in
    omega (arith, h)

pub back_of-q-requires : goal.back_of-q-requires
back_of-q-requires c = let h = edge_at_lem _ _ _ _ _ _ _ _ _ _ _ _ c.loop-u.invariant _ _ _ c.look_up-l.ensures.answer_value c.look_up-l.ensures.kept_after_2 c.look_up-l.ensures.lookups_value c.in-Some.u c.in-Some.is in
    (omega (arith, h.0, h.1), omega (arith, h.0, h.1))

pub loop-u-smaller : goal.loop-u-smaller
loop-u-smaller c = less_at _ _ _ _ _ _ _ _ _ _ _ _ c.loop-u.invariant _ _ _ c.look_up-l.ensures.answer_value c.look_up-l.ensures.kept_after_2 c.look_up-l.ensures.lookups_value c.in-Some.u c.in-Some.is

pub loop-u-preserved : goal.loop-u-preserved
loop-u-preserved c = next_at _ _ _ _ _ _ _ _ _ _ _ _ c.loop-u.invariant _ _ _ c.look_up-l.ensures.answer_value c.look_up-l.ensures.kept_after_2 c.look_up-l.ensures.lookups_value c.in-Some.u c.in-Some.is _ c.back_of-q.ensures

pub shape_of-kept : goal.shape_of-kept
shape_of-kept c = c.look_up-l.auto.kept ∙ c.loop-u.invariant.long

pub shape_of-out : goal.shape_of-out
shape_of-out c = going_long _ _ _ _ _ _ _ _ _ _ _ _ c.loop-u.invariant

pub returns : goal.returns
returns c = end _ _ _ _ _ _ _ _ _ _ _ _ c.loop-u.invariant _ _ _ c.look_up-l.ensures.answer_value c.look_up-l.ensures.kept_after_2 c.look_up-l.ensures.lookups_value c.in_default.is _ refl refl
