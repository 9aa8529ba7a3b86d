use Rattle.std.proofs.Common.{◌≡◌, ◌+◌, ◌*◌, ◌/◌, length, arith, get_or-drop, ◌∙◌, ap, sym}
use Rattle.condition.specs.Tallies.{inserted_all}
use Rattle.condition.proofs.Loops.{four_below, four_is, inserting_end, inserting_four, inserting_one, inserting_start}
use Rattle.condition.proofs.tally_part.Goals as goal

pub loop-four-init : goal.loop-four-init
loop-four-init c = inserting_start _ _

pub insert_four-t-requires : goal.insert_four-t-requires
insert_four-t-requires c =
    let fours = c.as_chunks.ensures in
    four_below _ _ _ fours.front fours.front_len c.loop-four-test.true c.requires

pub loop-four-preserved : goal.loop-four-preserved
loop-four-preserved c =
    let fours = c.as_chunks.ensures in
    let next : 4 * (c.loop-four.four-index + 1) ≡ 4 * c.loop-four.four-index + 4 = omega arith in
    rw next (inserting_four _ _ _ _ c.loop-four.invariant (omega (arith, fours.front_len)) _ (c.insert_four-t.ensures ∙ ap (inserted_all c.loop-four.t) (four_is _ _ _ fours.front fours.front_len c.loop-four-test.true)))

pub loop-u-init : goal.loop-u-init
loop-u-init c = inserting_start _ _

pub insert-t-requires : goal.insert-t-requires
insert-t-requires c =
    let rest = c.as_chunks.ensures in
    rw (rest.back, get_or-drop) (c.requires _ (omega (arith, rest.back_len)))

pub loop-u-preserved : goal.loop-u-preserved
loop-u-preserved c = inserting_one _ _ _ _ c.loop-u.invariant c.loop-u-test.true _ c.insert-t.ensures

pub returns : goal.returns
returns c =
    let rest = c.as_chunks.ensures in
    let e : 4 * c.loop-four.four-index ≡ length c.args.part.now / 4 * 4 = omega (arith, rest.front_len) in
    inserting_end _ _ _ _ c.loop-u.invariant c.loop-u-test.false ∙ ap (inserted_all c.loop-four.t) rest.back ∙ sym (rw e at c.loop-four.invariant.same)
