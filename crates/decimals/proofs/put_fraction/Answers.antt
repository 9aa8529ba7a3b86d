-- The sign, the whole part and the places; at most 17 bytes in all.
use Rattle.std.proofs.Common.{arith}
use Rattle.decimals.proofs.Rounding.{ten_pos}
use Rattle.decimals.proofs.Texts.{put_fraction, sign_short, whole_short}
use Rattle.decimals.proofs.put_fraction.Goals as goal

pub nonzero_div-m : goal.nonzero_div-m
nonzero_div-m c = omega (arith, ten_pos c.args.k)

pub put_decimal-whole-requires : goal.put_decimal-whole-requires
put_decimal-whole-requires c = let args = c.args in
    omega (arith, c.put_sign-sign.auto.out, sign_short args.negative, whole_short args.m args.k _ c.ten_to.ensures.0 (omega arith) (omega arith))

pub put_places-requires : goal.put_places-requires
put_places-requires c = let args = c.args in
    omega (arith, c.put_decimal-whole.auto.out, c.put_sign-sign.auto.out, sign_short args.negative, whole_short args.m args.k _ c.ten_to.ensures.0 (omega arith) (omega arith))

pub returns : goal.returns
returns c = put_fraction _ _ _ _ _ _ c.ten_to.ensures.0 _ _ _ _ _ _ c.put_sign-sign.ensures c.put_decimal-whole.ensures c.put_places.ensures (omega arith) (omega arith)
