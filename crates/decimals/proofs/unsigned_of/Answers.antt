-- By where the point stands.
use Rattle.std.proofs.Common.{◌+◌, ◌-◌, length, take, drop, sym, ◌∙◌, arith, length-take}
use Rattle.decimals.proofs.Numerals.{tens, token_bound}
use Rattle.decimals.proofs.Rounding.{ten_most}
use Rattle.decimals.proofs.Unsigned.{no_point_is, no_point_long, none_before, none_behind, one_point_is, parts_short, room_after, too_long}
use Rattle.decimals.proofs.unsigned_of.Goals as goal

pub returns-then-point-eq0 : goal.returns-then-point-eq0
returns-then-point-eq0 c = none_before _ _ _ c.point_of-point.ensures.0 c.if-point-eq0.true

pub returns-then-n-gt16 : goal.returns-then-n-gt16
returns-then-n-gt16 c = too_long _ _ _ c.point_of-point.ensures.0 c.if-n-gt16.true

pub returns-then-n-gt15 : goal.returns-then-n-gt15
returns-then-n-gt15 c = no_point_long _ _ _ c.point_of-point.ensures.0 c.if-point-n.true c.if-point-eq0.false (omega arith)

pub places_after-requires : goal.places_after-requires
places_after-requires c = (omega (arith, ten_most (length c.args.word.now) (omega arith)), omega arith)

pub returns-then-point-n : goal.returns-then-point-n
returns-then-point-n c = c.places_after.ensures ∙ no_point_is _ _ _ c.point_of-point.ensures.0 c.if-point-n.true c.if-point-eq0.false c.if-n-gt15.false

pub returns-then-first-n : goal.returns-then-first-n
returns-then-first-n c = none_behind _ _ _ c.point_of-point.ensures.0 (omega arith) c.if-point-eq0.false c.if-first-n.true

pub digits_after-requires : goal.digits_after-requires
digits_after-requires c = let args = c.args in
    let point_of_lem = c.point_of-point in
    let first = take (point_of_lem.result) args.word.now in
    omega (arith, ten_most (length first) (omega (arith, length-take (point_of_lem.result) args.word.now)))

pub places_after-requires-2 : goal.places_after-requires-2
places_after-requires-2 c = let args = c.args in
    let point_of_lem = c.point_of-point in
    let m = token_bound tens 0 (take (point_of_lem.result) args.word.now) _ (sym c.in_ok-m.was ∙ c.digits_after.ensures) in
    (room_after _ (length (take (point_of_lem.result) args.word.now)) (length (take (length args.word.now - (point_of_lem.result + 1)) (drop (point_of_lem.result + 1) args.word.now))) m (parts_short args.word.now point_of_lem.result (omega arith) (omega arith)), omega arith)

pub returns-in_err-m : goal.returns-in_err-m
returns-in_err-m c = c.from_residual.ensures ∙ (one_point_is _ _ _ c.point_of-point.ensures.0 (omega arith) c.if-point-eq0.false c.if-first-n.false (omega arith) _ (sym c.in_err-m.was ∙ c.digits_after.ensures))

pub returns : goal.returns
returns c = c.places_after-2.ensures
    ∙ one_point_is _ _ _ c.point_of-point.ensures.0 (omega arith) c.if-point-eq0.false c.if-first-n.false (omega arith) _ (sym c.in_ok-m.was ∙ c.digits_after.ensures)
