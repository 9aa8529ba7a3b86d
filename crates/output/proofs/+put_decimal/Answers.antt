-- The digits but the last by the call of itself, then the last. The measure is the number.
use native.Mathlib.Omega.{arith}
use Rattle.output.proofs.Laws.{length_more, length_one, put_more, put_one}
use Rattle.output.proofs.+put_decimal.Goals as goal

pub bounds-out-at : goal.bounds-out-at
bounds-out-at t c = omega (arith, length_one c.args.n (omega arith))

pub returns-then-n-lt10 : goal.returns-then-n-lt10
returns-then-n-lt10 t c = put_one _ _ _ (omega arith)

pub put_decimal-last-requires : goal.put_decimal-last-requires
put_decimal-last-requires t c =
    let m = length_more c.args.n (omega arith) in
    (omega arith, omega arith)

pub bounds-out-last : goal.bounds-out-last
bounds-out-last t c = omega (arith, length_more c.args.n (omega arith))

pub overflow_add-result-2 : goal.overflow_add-result-2
overflow_add-result-2 t c = omega (arith, length_more c.args.n (omega arith))

pub returns : goal.returns
returns t c = put_more _ _ _ _ _ (omega arith) c.put_decimal-last.ensures
