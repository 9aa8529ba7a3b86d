-- Both numbers are exact, so the quotient is rounded once; the sign is the highest bit.
use Rattle.std.proofs.Common.{true, arith}
use Rattle.decimals.proofs.Rounding.{Quotient, nearest_bits_lt, quotient_of}
use Rattle.decimals.proofs.nearest_bits.Goals as goal

pub float_to_bits-bits : goal.float_to_bits-bits
float_to_bits-bits c = let quotient : Quotient c.nearest_u64_to_f64.result c.power.result c.args.m c.args.k = let pre = c.requires in quotient_of _ _ _ _ pre.0 pre.1 c.nearest_u64_to_f64.ensures c.power.ensures in
    (quotient).no_nan

pub overflow_add-result : goal.overflow_add-result
overflow_add-result c = let quotient : Quotient c.nearest_u64_to_f64.result c.power.result c.args.m c.args.k = let pre = c.requires in quotient_of _ _ _ _ pre.0 pre.1 c.nearest_u64_to_f64.ensures c.power.ensures in
    let args = c.args in
    omega (arith, (quotient).negative, nearest_bits_lt true args.m args.k)

pub returns-then-negative : goal.returns-then-negative
returns-then-negative c = let quotient : Quotient c.nearest_u64_to_f64.result c.power.result c.args.m c.args.k = let pre = c.requires in quotient_of _ _ _ _ pre.0 pre.1 c.nearest_u64_to_f64.ensures c.power.ensures in
    rw c.if-negative.true (quotient).negative

pub returns : goal.returns
returns c = let quotient : Quotient c.nearest_u64_to_f64.result c.power.result c.args.m c.args.k = let pre = c.requires in quotient_of _ _ _ _ pre.0 pre.1 c.nearest_u64_to_f64.ensures c.power.ensures in
    rw c.if-negative.false (quotient).plain
