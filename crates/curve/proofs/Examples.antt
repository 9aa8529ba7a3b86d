-- Cuts and joins worked by hand, in one table with one claim over it. Values are given by their bits.
use Rattle.std.specs.Prelude.{None, Option, Some}
use Prim.Native.Nat.{ℕ}
use mathlib.Core.List.{List, [], ◌∷◌, map}
use mathlib.Core.Path.{◌≡◌, refl}
use lib.Ieee.{add, binary64, le, lt, nan, nan_bits, neg, of_bits, sub}
use Rattle.curve.specs.Curves.{cut_curve, join_curves, joined_span, parameter_of, refuses, tolerance}
use Rattle.curve.specs.declared.Parameter.{Parameter}
use Rattle.curve.specs.declared.Parameter.TheVariants.{At}
use Rattle.edge.specs.Edges.{in_range, is_span}
use Rattle.edge.specs.declared.Curve.{Curve}

-- what is asked: a cut, a join, the joined span whether accepted or not
pub data Question : Type 0 where
  cut : Curve → Parameter → Question
  join : Curve → Curve → Question
  joined : Curve → Curve → Question

pub record Row : Type 0 where
  pub question : Question
  pub answer : List Curve

-- the curves made; none if refused
abbrev halves : Option (Curve × Curve) → List Curve
halves None = []
halves (Some (k, l)) = k ∷ l ∷ []

abbrev whole : Option Curve → List Curve
whole None = []
whole (Some k) = k ∷ []

abbrev pub answer_to : Question → List Curve
answer_to (cut k at) = halves (cut_curve k at)
answer_to (join a b) = whole (join_curves a b)
answer_to (joined a b) = joined_span a b ∷ []

abbrev span : ℕ → ℕ → Curve
span a b = record { t0 = of_bits binary64 a; t1 = of_bits binary64 b }

abbrev row : Question → List Curve → Row
row q a = record { question = q; answer = a }

-- from 0 to 1, to 500,000, and to the second f64 above 500,000
abbrev unit : Curve
unit = span 0 0x3ff0_0000_0000_0000

abbrev half : Curve
half = span 0 0x411e_8480_0000_0000

abbrev more : Curve
more = span 0 0x411e_8480_0000_0002

-- from 524288 − 2 ^ -34 to 524288, and from -2 ^ -34 to -0.75 · 2 ^ -34
abbrev corner_a : Curve
corner_a = span 0x411f_ffff_ffff_ffff 0x4120_0000_0000_0000

abbrev corner_b : Curve
corner_b = span 0xbdd0_0000_0000_0000 0xbdc8_0000_0000_0000

abbrev at : ℕ → Question
at bits = cut unit (parameter_of bits)

abbrev pub table : List Row
table =
    -- at 0.000001, at 0.0000009
    row (at 0x3eb0_c6f7_a0b5_ed8d) (span 0 0x3eb0_c6f7_a0b5_ed8d ∷ span 0x3eb0_c6f7_a0b5_ed8d 0x3ff0_0000_0000_0000 ∷ [])
    ∷ row (at 0x3eae_32f0_ee14_4531) []
    -- at NaN, also as bits; at the infinities
    ∷ row (cut unit (At nan)) []
    ∷ row (at 0x7ff8_0000_0000_0000) []
    ∷ row (at 0x7ff0_0000_0000_0000) []
    ∷ row (at 0xfff0_0000_0000_0000) []
    -- at 1 − 0.000001, at the next f64 above
    ∷ row (cut unit (At (sub binary64 unit.t1 tolerance))) (span 0 0x3fef_fffd_e721_0be9 ∷ span 0x3fef_fffd_e721_0be9 0x3ff0_0000_0000_0000 ∷ [])
    ∷ row (at 0x3fef_fffd_e721_0bea) []
    -- to 1,000,000, to the next f64 above
    ∷ row (join half half) (span 0 0x412e_8480_0000_0000 ∷ [])
    ∷ row (joined half more) (span 0 0x412e_8480_0000_0001 ∷ [])
    ∷ row (join half more) []
    -- rounded twice, down to the start
    ∷ row (joined corner_a corner_b) (span 0x411f_ffff_ffff_ffff 0x411f_ffff_ffff_ffff ∷ [])
    ∷ row (join corner_a corner_b) []
    ∷ []

pub table_right : map (λ (r : Row). answer_to r.question) table ≡ map (λ (r : Row). r.answer) table
unfolding refuses is_span in_range add sub neg lt le of_bits nan_bits
table_right = refl
