use mathlib.Core.Path.{refl, sym}
use lib.Ieee.{div, of_bits}
use Rattle.store_read.proofs.Bits.{nan_bits_lem, no_nan_bits}
use Rattle.store_read.proofs.f64_of.Goals as goal

pub returns-then-bits-gt9218868437227405312 : goal.returns-then-bits-gt9218868437227405312
unfolding div of_bits
returns-then-bits-gt9218868437227405312 c = sym (nan_bits_lem _ c.if-bits-gt9218868437227405312.true)

pub float_from_bits-result : goal.float_from_bits-result
float_from_bits-result c = no_nan_bits _ c.if-bits-gt9218868437227405312.false

pub returns : goal.returns
returns c = refl
